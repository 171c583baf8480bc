-- Request W-201, the sheet that a table holds over the folded bytes: it is the sheet with folded names, and good if the sheet is.
use Prim.Native.Nat.{ℕ, zero, suc, ◌≤◌}
use mathlib.Core.Path.{◌≡◌, refl, ap, ap₂, ◌∙◌}
use mathlib.Core.List.{List, [], ◌∷◌}
use mathlib.Core.Option.{Option, map}
use lib.ListN.{take, drop}
use Rattle.terms.proofs.Lists.{all_map, all_weaken}
use Rattle.sheet_format.specs.Limits.{max_arity}
use Rattle.sheet_format.specs.Bytes.{folded, folded_name}
use Rattle.sheet_format.specs.Nodes.{Declaration}
use Rattle.sheet_format.specs.Sheets.{Sheet}
use Rattle.sheet_format.proofs.Formed.{Keeps, FormedClause, goal_keeps, clause_keeps}
use Rattle.sheet_format.proofs.Good.{Good}
use Rattle.node_table.specs.Layout.{name_start, name_length}
use Rattle.node_table.specs.Decoding.{declaration_at, declarations_from, decode_sheet}
use Rattle.answer_texts.specs.Capitals.{small_declaration, small_names, small_sheet}
use Rattle.text_judging.proofs.Capitals.{small_names_lem, at_map}
use Rattle.line_checking.proofs.FoldedLines.{drop_folded}

-- the table

-- The first bytes of a folded list are the first bytes, folded.
take_folded : (n : ℕ) (x : List ℕ) → take n (folded_name x) ≡ folded_name (take n x)
take_folded zero x = refl
take_folded (suc n) [] = refl
take_folded (suc n) (c ∷ cs) = ap (folded c ∷◌) (take_folded n cs)

-- The declarations over the folded bytes are those with folded names.
declarations_small : (b t : List ℕ) (n k : ℕ) → declarations_from (folded_name b) t n k ≡ small_names (declarations_from b t n k)
unfolding declarations_from declaration_at small_declaration
declarations_small b t zero k = refl
declarations_small b t (suc n) k =
    ap₂ ◌∷◌ (ap (λ (m : List ℕ). record { function = (declaration_at b t k).function; name = m; arity = (declaration_at b t k).arity })
    (ap (take (name_length t k)) (drop_folded (name_start t k) b) ∙ take_folded (name_length t k) (drop (name_start t k) b)))
    (declarations_small b t n (suc k))

-- So is the sheet.
pub decode_small : (b t : List ℕ) (symbols clauses goal : ℕ)
    → decode_sheet (folded_name b) t symbols clauses goal ≡ small_sheet (decode_sheet b t symbols clauses goal)
unfolding decode_sheet small_sheet
decode_small b t symbols clauses goal =
    ap (λ (ds : List Declaration). record {
      order = (decode_sheet b t symbols clauses goal).order;
      symbols = ds;
      clauses = (decode_sheet b t symbols clauses goal).clauses;
      goal = (decode_sheet b t symbols clauses goal).goal;
    }) (declarations_small b t symbols 0)

-- good sheets

-- Folding names keeps what is declared.
small_keeps : (ds : List Declaration) → Keeps ds (small_names ds)
unfolding small_declaration
small_keeps ds k f n h =
    record {
      declaration = small_declaration h.declaration;
      at = at_map small_declaration ds f ∙ ap (λ (o : Option Declaration). map small_declaration o) h.at;
      kind = h.kind;
      arity = h.arity;
    }

-- The sheet with folded names is good if the sheet is.
pub good_small : (s : Sheet) → Good s → Good (small_sheet s)
unfolding small_sheet small_declaration
good_small s g =
    let ds = s.symbols in
    record {
      names = small_names_lem ds g.names;
      arities = all_map small_declaration (λ d. d.arity ≤ max_arity) (λ d. d.arity ≤ max_arity) (λ d h. h) ds g.arities;
      clauses_formed = all_weaken (λ c. FormedClause c ds) (λ c. FormedClause c (small_names ds))
          (clause_keeps ds (small_names ds) (small_keeps ds)) s.clauses g.clauses_formed;
      clauses_closed = g.clauses_closed;
      goal_formed = goal_keeps ds (small_names ds) (small_keeps ds) s.goal g.goal_formed;
      goal_free = g.goal_free;
    }
