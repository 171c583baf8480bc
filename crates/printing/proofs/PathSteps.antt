-- The path in the order taken: the forward links lead from line to line, and the writer follows them.
use Prim.Native.Nat.{ℕ, zero, suc, ◌-◌, ◌*◌, ◌/◌, ◌%◌, ◌≤◌, ◌<◌}
use native.Mathlib.Omega.{arith}
use mathlib.Core.Path.{◌≡◌, refl, sym, ap, ◌∙◌, subst}
use mathlib.Core.Bool.{Bool, true, false}
use mathlib.Core.List.{List, [], ◌∷◌, ◌++◌, map, reverse, reverse_aux}
use mathlib.Core.Logic.{◌⊎◌, inl, inr}
use lib.Dec.{eqb}
use lib.ListN.{length}
use borrow.Author.Tests.{eq-eqb, ne_eqb}
use Rattle.terms.specs.Lists.{All}
use Rattle.terms.proofs.Lists.{all_weaken}
use Rattle.sequents.specs.Sequents.{Line, put_line}
use Rattle.unification.specs.Store.{Leaf, Store}
use Rattle.search.specs.Answers.{final}
use Rattle.sheet_format.specs.Nodes.{Declaration}
use Rattle.sheet_format.specs.Limits.{numbers_per_unit}
use Rattle.node_table.specs.Decoding.{declarations_from}
use Rattle.answer_texts.specs.TextLines.{TextLine, derivation_line}
use Rattle.machine.specs.Fields as fields
use Rattle.machine.specs.Records.{cell_of, Made}
use Rattle.machine.specs.Reading.{line_at, path_from}
use Rattle.printing.specs.Numbering.{Printer}
use Rattle.printing.specs.WriteLines.{line_to, lines_to}
use Rattle.printing.specs.PathLinks.{link_word, Linked, linked, link_path, next_line_field}
use Rattle.printing.specs.Writer.{prepare, first_link}
use Rattle.printing.specs.Written.{LineMade, PathMade}
use Rattle.machine.proofs.Records.{cell_put}
use Rattle.printing.proofs.Tokens.{line_tokens, text_tokens, tokens}
use Rattle.printing.proofs.LeftAlone.{Alike, alike_refl, alike_trans, alike_put}
use Rattle.printing.proofs.Words.{link_pointer, link_line}
use Rattle.printing.proofs.TermSteps.{Basis}
use Rattle.printing.proofs.LineSteps.{Reached, reach_alike, reach_kept, reach_none, reach_then, reach_line_at}
use Rattle.memory.proofs.Records.{field_same, record_other}
use Rattle.memory.specs.Records.{field, put_field}

-- A line of the path: the pointer to its record, and which line it is.
pub record PathLine : Type 0 where
  pub pointer : ℕ
  pub line : ℕ

-- A pointer and a line make a line of the path.
abbrev path_line : ℕ → ℕ → PathLine
path_line p k = record { pointer = p; line = k }

-- Latest first, as `path_from` reads them.
unfoldable pub path_lines : ℕ → List ℕ → ℕ → ℕ → List PathLine
path_lines zero w p k = []
path_lines (suc n) w p k =
    elim (eqb p 0) [
      | true ↦ []
      | false ↦ path_line p k ∷ path_lines n w (field w (p - 1) fields.path_before)
          (field w (p - 1) fields.path_line)
    ]

-- The line itself.
abbrev pub line_of : List ℕ → PathLine → Line Leaf
line_of w x = line_at w (x.pointer - 1) x.line

-- The lines of the path are what `path_from` reads.
pub lines_read : (n : ℕ) (w : List ℕ) (p k : ℕ) → path_from n w p k ≡ map (line_of w) (path_lines n w p k)
unfolding path_from path_lines
lines_read zero w p k = refl
lines_read (suc n) w p k = go (eqb p 0) (lines_read n w (field w (p - 1) fields.path_before) (field w (p - 1) fields.path_line))
  where
    go : (b : Bool) → path_from n w (field w (p - 1) fields.path_before) (field w (p - 1) fields.path_line) ≡ map (line_of w)
        (path_lines n w (field w (p - 1) fields.path_before) (field w (p - 1) fields.path_line))
        → ◌≡◌ {A = List (Line Leaf)}
        (elim b [
          | true ↦ []
          | false ↦ line_at w (p - 1) k ∷ path_from n w (field w (p - 1) fields.path_before)
              (field w (p - 1) fields.path_line)
        ])
        (map (line_of w)
        (elim b [ true ↦ [] | false ↦ path_line p k ∷ path_lines n w (field w (p - 1) fields.path_before) (field w (p - 1) fields.path_line) ]))
    go true h = refl
    go false h = ap (line_at w (p - 1) k ∷◌) h

-- The path has no more lines than turns.
pub lines_few : (n : ℕ) (w : List ℕ) (p k : ℕ) → length (path_lines n w p k) ≤ n
unfolding path_lines
lines_few zero w p k = omega arith
lines_few (suc n) w p k = go (eqb p 0) (lines_few n w (field w (p - 1) fields.path_before) (field w (p - 1) fields.path_line))
  where
    go : (b : Bool) → length (path_lines n w (field w (p - 1) fields.path_before) (field w (p - 1) fields.path_line)) ≤ n
        → length {A = PathLine}
        (elim b [
          | true ↦ []
          | false ↦ path_line p k ∷ path_lines n w (field w (p - 1) fields.path_before)
              (field w (p - 1) fields.path_line)
        ]) ≤ suc n
    go true h = omega arith
    go false h = omega arith

-- Reversing commutes with a map.
pub reverse_map : {A B : Type 0} (f : A → B) (l r : List A) → map f (reverse_aux l r) ≡ reverse_aux (map f l) (map f r)
reverse_map f [] r = refl
reverse_map f (a ∷ l) r = reverse_map f l (a ∷ r)

module _ (w : List ℕ) (next acts : ℕ) where
  -- In memory v, link e leads along these lines to the end.
  unfoldable pub Chain : List ℕ → ℕ → List PathLine → Type 0
  Chain v e [] = e ≡ 0
  Chain v e (x ∷ l) =
      (e ≡ link_word x.pointer x.line) × (1 ≤ x.pointer) × (x.pointer ≤ acts) × LineMade w next (x.pointer - 1) x.line
      × Chain v (field v (x.pointer - 1) next_line_field) l

  -- Writing the link of an earlier record leaves a chain.
  chain_put : (v : List ℕ) (p a : ℕ) → 1 ≤ p → (e : ℕ) (l : List PathLine) → All (λ x. p < x.pointer) l → Chain v e l
      → Chain (put_field v (p - 1) next_line_field a) e l
  unfolding Chain
  chain_put v p a h e [] o c = c
  chain_put v p a h e (x ∷ l) o c =
      let k = o.0 in (
        c.0,
        c.1,
        c.2,
        c.3,
        subst (λ (d : ℕ). Chain (put_field v (p - 1) next_line_field a) d l)
            (sym (record_other v (p - 1) next_line_field (x.pointer - 1) next_line_field a (omega arith) (omega arith) (λ q. omega arith)))
            (chain_put v p a h (field v (x.pointer - 1) next_line_field) l o.1 c.4),
      )

  -- What linking leaves: the chain, in a memory that reads alike.
  record Joined (v : List ℕ) (r : Linked) (l : List PathLine) : Type 0 where
    chain : Chain r.memory r.first l
    alike : Alike 62 v r.memory

  -- Linking reverses the path.
  link_chain : (n : ℕ) (v : List ℕ) (p k e : ℕ) (l : List PathLine) → numbers_per_unit * acts ≤ length v → Alike 62 w v
      → PathMade n w next p k → p ≤ acts → All (λ x. p < x.pointer) l → Chain v e l
      → Joined v (link_path n v p k e) (reverse_aux (path_lines n w p k) l)
  unfolding link_path path_lines PathMade Chain
  link_chain zero v p k e l room a m h o c = record { chain = c; alike = alike_refl 62 v }
  link_chain (suc n) v p k e l room a m h o c = go m (link_chain n (put_field v (p - 1) next_line_field e))
    where
      go : (p ≡ 0) ⊎ ((1 ≤ p) × LineMade w next (p - 1) k × (field w (p - 1) fields.path_before < p)
          × PathMade n w next (field w (p - 1) fields.path_before) (field w (p - 1) fields.path_line))
          → ((q j d : ℕ) (i : List PathLine) → numbers_per_unit * acts ≤ length (put_field v (p - 1) next_line_field e)
          → Alike 62 w (put_field v (p - 1) next_line_field e) → PathMade n w next q j → q ≤ acts → All (λ x. q < x.pointer) i
          → Chain (put_field v (p - 1) next_line_field e) d i
          → Joined (put_field v (p - 1) next_line_field e) (link_path n (put_field v (p - 1) next_line_field e) q j d)
          (reverse_aux (path_lines n w q j) i))
          → Joined v (link_path (suc n) v p k e) (reverse_aux (path_lines (suc n) w p k) l)
      go (inl z) f = rw (link_path, path_lines, eq-eqb p 0 z) (record { chain = c; alike = alike_refl 62 v })
      go (inr q) f =
          let low = q.0 in
          let falls = q.2 in
          let g = alike_put 62 v (p - 1) 62 e (omega arith) (omega arith) (omega arith) in
          let c' : Chain (put_field v (p - 1) next_line_field e) (link_word p k) (path_line p k ∷ l) = (
            refl,
            q.0,
            h,
            q.1,
            subst (λ (d : ℕ). Chain (put_field v (p - 1) next_line_field e) d l) (sym (field_same v (p - 1) next_line_field e (omega arith)))
                (chain_put v p e q.0 e l o c),
          )
          in
          let r = f (field w (p - 1) fields.path_before) (field w (p - 1) fields.path_line) (link_word p k) (path_line p k ∷ l)
          (let y = g.long in omega arith) (alike_trans 62 w v _ a g) q.3 (omega arith)
          (falls, all_weaken (λ x. p < x.pointer) (λ x. field w (p - 1) fields.path_before < x.pointer) (λ x y. omega arith) l o) c'
          in
          rw (
            link_path,
            path_lines,
            ne_eqb p 0 (λ y. omega arith),
            a.fields (p - 1) 39 (omega arith) (omega arith),
            a.fields (p - 1) 40 (omega arith) (omega arith),
          )
          (record { chain = r.chain; alike = alike_trans 62 v _ _ g r.alike })

-- No cell is written.
link_cells : (n : ℕ) (v : List ℕ) (p k e x : ℕ) → cell_of (link_path n v p k e).memory x ≡ cell_of v x
unfolding link_path
link_cells zero v p k e x = refl
link_cells (suc n) v p k e x =
    go (eqb p 0) (link_cells n (put_field v (p - 1) next_line_field e) (field v (p - 1) fields.path_before) (field v (p - 1) fields.path_line)
    (link_word p k) x)
  where
    r : Linked
    r = link_path n (put_field v (p - 1) next_line_field e) (field v (p - 1) fields.path_before) (field v (p - 1) fields.path_line) (link_word p k)

    go : (b : Bool) → cell_of r.memory x ≡ cell_of (put_field v (p - 1) next_line_field e) x
        → cell_of (elim b as (λ b. Linked) [ true ↦ linked v e | false ↦ r ]).memory x ≡ cell_of v x
    go true h = refl
    go false h = h ∙ cell_put v x (p - 1) next_line_field e (omega arith) (omega arith)

-- What the writer finds when its passes begin.
pub record Prepared (w : List ℕ) (next acts : ℕ) (v : List ℕ) (e : ℕ) (l : List PathLine) : Type 0 where
  pub alike : Alike 62 w v
  pub cells : (x : ℕ) → cell_of v x ≡ cell_of w x
  pub chain : Chain w next acts v e l

-- The preparation makes it so.
pub prepared : (m : Made) (next : ℕ) → numbers_per_unit * m.registers.acts ≤ length m.memory → m.registers.path ≤ m.registers.acts
    → PathMade m.registers.acts m.memory next m.registers.path m.registers.line
    → Prepared m.memory next m.registers.acts (prepare m) (first_link m)
    (reverse (path_lines m.registers.acts m.memory m.registers.path m.registers.line))
unfolding prepare first_link Chain
prepared m next room h path =
    let acts = m.registers.acts in
    let w = m.memory in
    let j = link_chain w next acts acts w m.registers.path m.registers.line 0 [] room (alike_refl 62 w) path h tt refl in
    record {
      alike = j.alike;
      cells = λ x. link_cells acts w m.registers.path m.registers.line 0 x;
      chain = j.chain;
    }

-- The writer writes one line and then the lines after it.
lines_next : (sheet t : List ℕ) (turns limit n : ℕ) (g : Printer) (e p k : ℕ) → e / 8 ≡ p → e % 8 ≡ k → 1 ≤ p
    → lines_to sheet t turns limit (suc n) g e ≡ lines_to sheet t turns limit n (line_to sheet t turns limit g (p - 1) k)
    (field g.memory (p - 1) next_line_field)
unfolding lines_to
lines_next sheet t turns limit n g e p k q r h = rw (lines_to, q, ne_eqb p 0 (λ z. omega arith), q, r)

-- The line of the text.
abbrev pub line_shown : List ℕ → Store → PathLine → TextLine
line_shown w s x = derivation_line (put_line (final s) (line_of w x))

-- The lines from a link on.
module _ (sheet t : List ℕ) (symbols nodes : ℕ) (w : List ℕ) (acts : ℕ) (s : Store) (b : Basis t symbols nodes w acts s) (limit : ℕ)
    (low : limit ≤ 65535) where
  -- `ds` has the symbols of the sheet.
  abbrev ds : List Declaration
  ds = declarations_from sheet t symbols 0

  -- They are written one after the other.
  pub reach_lines : (v : List ℕ) (l : List PathLine) (n : ℕ) → length l ≤ n → (g : Printer) (e : ℕ) → Chain w s.next acts v e l
      → Alike 62 w g.memory
      → ((u : ℕ) → field g.memory u next_line_field ≡ field v u next_line_field)
      → Reached sheet t symbols nodes w acts s b limit low (tokens ds (map (line_shown w s) l)) g (lines_to sheet t acts limit n g e)
  unfolding lines_to tokens text_tokens Chain
  reach_lines v [] zero h g e c k f = reach_none sheet t symbols nodes w acts s b limit low g
  reach_lines v [] (suc n) h g e c k f = rw c (reach_none sheet t symbols nodes w acts s b limit low g)
  reach_lines v (x ∷ l) zero h g e c k f = absurd (omega arith)
  reach_lines v (x ∷ l) (suc n) h g e c k f =
      let p = x.pointer in
      let few = b.few in
      let most = c.2 in
      let q = ap (λ (d : ℕ). d / 8) c.0 ∙ link_pointer p x.line (omega arith) c.3.kind in
      let r = ap (λ (d : ℕ). d % 8) c.0 ∙ link_line p x.line (omega arith) c.3.kind in
      let i = line_to sheet t acts limit g (p - 1) x.line in
      let first = c.1 in
      let line = reach_line_at sheet t symbols nodes w acts s b limit low (p - 1) x.line g (omega arith) c.3 k in
      let ks = line_tokens ds (put_line (final s) (line_of w x)) in
      let alike = reach_alike sheet t symbols nodes w acts s b limit low ks g i line k in
      subst (Reached sheet t symbols nodes w acts s b limit low (ks ++ tokens ds (map (line_shown w s) l)) g)
      (sym (lines_next sheet t acts limit n g e p x.line q r c.1))
      (reach_then sheet t symbols nodes w acts s b limit low ks (tokens ds (map (line_shown w s) l)) g i _ line
      (reach_lines v l n (omega arith) i (field g.memory (p - 1) next_line_field)
      (subst (λ (d : ℕ). Chain w s.next acts v d l) (sym (f (p - 1))) c.4)
      (reach_kept sheet t symbols nodes w acts s b limit low ks g i line k) (λ u. alike.fields u 62 (omega arith) (omega arith) ∙ f u)))
