-- Made constants and leftover variables: `read_symbol` reads back what `spell_symbol` writes after its first byte, and only that;
-- `find_name` finds the function symbol that has a name.
use Prim.Native.Nat.{ℕ, zero, suc, ◌+◌, ◌≤◌}
use Prim.Native.Char.{code}
use mathlib.Core.Path.{◌≡◌, refl, sym, ◌∙◌, ap, ap₂, subst}
use mathlib.Core.Bool.{Bool, true, false}
use mathlib.Core.List.{List, [], ◌∷◌, ◌++◌, append_assoc}
use mathlib.Core.Option.{Option, none, some}
use lib.Dec.{eqb}
use lib.ListN.{get_elem?}
use borrow.Author.Tests.{eqb-true}
use native.Mathlib.Omega.{arith}
use Rattle.terms.specs.Terms.{leaf}
use Rattle.sequents.specs.Symbols.{Symbol, Ground}
use Rattle.sheet_format.specs.Limits.{max_number}
use Rattle.sheet_format.specs.Bytes.{is_digit, number, decimal, same_bytes, folded_name}
use Rattle.sheet_format.specs.Nodes.{Declaration}
use Rattle.sheet_format.proofs.Options.{OnSome, cond_some, some_weaken}
use Rattle.sheet_format.proofs.Bytes.{same_refl, same_equal}
use Rattle.sheet_format.proofs.Numbers.{decimal_digits, number_decimal, number_some}
use Rattle.sheet_format.proofs.Names.{Names, names_tail}
use Rattle.sheet_format.proofs.Formed.{Declares}
use Rattle.answer_texts.specs.Spelling.{name_in, name_of}
use Rattle.answer_texts.proofs.Declared.{marked, name_at, name_of_lem}
use Rattle.text_judging.specs.Reading.{Span, span, Parsed, parsed, with_level, read_level, read_symbol, Found, find_name}
use Rattle.text_judging.proofs.Spans.{Stops, span_append, span_split}

-- number@level

-- They are read back.
pub read_symbol_lem : (s : ℕ → ℕ → Symbol) (n k : ℕ) (r : List ℕ) → n ≤ max_number → k ≤ max_number → Stops is_digit r
    → read_symbol s (marked n k ++ r) ≡ parsed (leaf (s n k)) r
unfolding read_symbol read_level with_level is_digit
read_symbol_lem s n k r hn hk h =
    ap (read_symbol s) (append_assoc (decimal n) (code "@" ∷ decimal k) r)
    ∙ ap (λ (x : Span). read_level s (number x.taken) x.rest)
    (span_append is_digit (decimal n) (code "@" ∷ (decimal k ++ r)) (decimal_digits n) refl)
    ∙ ap (λ (x : Span). with_level s (number (decimal n)) (number x.taken) x.rest)
    (span_append is_digit (decimal k) r (decimal_digits k) h)
    ∙ ap₂ (λ (x y : Option ℕ). with_level s x y r) (number_decimal n hn) (number_decimal k hk)

-- What is read has that spelling.
pub record ReadsSymbol (s : ℕ → ℕ → Symbol) (b : List ℕ) (p : Parsed Ground) : Type 0 where
  pub number : ℕ
  pub level : ℕ
  pub symbol : p.value ≡ leaf (s number level)
  pub spelled : b ≡ marked number level ++ p.rest
  pub small_number : number ≤ max_number
  pub small_level : level ≤ max_number

-- Bytes are the decimal of a small number.
abbrev IsDecimal : List ℕ → ℕ → Type 0
IsDecimal b n = (b ≡ decimal n) × (n ≤ max_number)

-- A symbol with a number and a level that were read is spelled so.
with_level_some : (s : ℕ → ℕ → Symbol) (o p : Option ℕ) (a b r : List ℕ) → OnSome (IsDecimal a) o → OnSome (IsDecimal b) p
    → OnSome (ReadsSymbol s (a ++ (code "@" ∷ (b ++ r)))) (with_level s o p r)
unfolding with_level
with_level_some s none p a b r h k = tt
with_level_some s (some n) none a b r h k = tt
with_level_some s (some n) (some m) a b r h k =
    record {
      number = n;
      level = m;
      symbol = refl;
      spelled = ap₂ (λ (x y : List ℕ). x ++ (code "@" ∷ (y ++ r))) h.0 k.0 ∙ sym (append_assoc (decimal n) (code "@" ∷ decimal m) r);
      small_number = h.1;
      small_level = k.1;
    }

-- A symbol whose level is read after its number is spelled so.
read_level_some : (s : ℕ → ℕ → Symbol) (o : Option ℕ) (a b : List ℕ) → OnSome (IsDecimal a) o
    → OnSome (ReadsSymbol s (a ++ b)) (read_level s o b)
unfolding read_level
read_level_some s o a [] h = tt
read_level_some s o a (c ∷ cs) h =
    cond_some (ReadsSymbol s (a ++ (c ∷ cs))) (eqb c (code "@")) (with_level s o (number (span is_digit cs).taken) (span is_digit cs).rest)
    none
    (λ e. subst (λ (x : List ℕ). OnSome (ReadsSymbol s (a ++ x)) (with_level s o (number (span is_digit cs).taken) (span is_digit cs).rest))
    (sym (ap₂ ◌∷◌ (eqb-true c (code "@") e) (span_split is_digit cs)))
    (with_level_some s o (number (span is_digit cs).taken) a (span is_digit cs).taken (span is_digit cs).rest h
    (number_some (span is_digit cs).taken)))
    (λ e. tt)

-- A symbol whose number and level are read is spelled so.
pub read_symbol_some : (s : ℕ → ℕ → Symbol) (b : List ℕ) → OnSome (ReadsSymbol s b) (read_symbol s b)
unfolding read_symbol
read_symbol_some s b =
    let n = span is_digit b in
    subst (λ (x : List ℕ). OnSome (ReadsSymbol s x) (read_level s (number n.taken) n.rest)) (sym (span_split is_digit b))
    (read_level_some s (number n.taken) n.taken n.rest (number_some n.taken))

-- function symbols

-- The name of a function symbol is found at that symbol, names being told apart.
find_from_lem : (ds : List Declaration) (k g : ℕ) (d : Declaration) → Names ds → get_elem? ds g ≡ some d → d.function ≡ true
    → find_name k ds d.name ≡ some (record { symbol = k + g; arity = d.arity })
unfolding find_name
find_from_lem [] k g d ns h f = absurd (let z : ◌≡◌ {A = ℕ} 0 1 = cc in omega arith)
find_from_lem (e ∷ ds) k zero d ns h f =
    let q : e ≡ d = cc in
    let s : k ≡ k + 0 = omega arith in
    rw q (rw (same_refl d.name, find_name) (rw f (ap (λ (x : ℕ). some (record { symbol = x; arity = d.arity })) s)))
find_from_lem (e ∷ ds) k (suc g) d ns h f = go (same_bytes d.name e.name) refl (find_from_lem ds (suc k) g d (names_tail e ds ns) h f)
  where
    s : suc k + g ≡ k + suc g
    s = omega arith

    go : (b : Bool) → same_bytes d.name e.name ≡ b
        → find_name (suc k) ds d.name ≡ some (record { symbol = suc k + g; arity = d.arity })
        → find_name k (e ∷ ds) d.name ≡ some (record { symbol = k + suc g; arity = d.arity })
    go true q ih = absurd (let z = ns.distinct (suc g) 0 d e h refl (ap folded_name (same_equal d.name e.name q)) in omega arith)
    go false q ih = rw (q, find_name) (ih ∙ ap (λ (x : ℕ). some (record { symbol = x; arity = d.arity })) s)

-- The name of a function symbol is found at that symbol, from the first symbol on.
pub find_name_lem : (ds : List Declaration) (g n : ℕ) → Names ds → Declares ds true g n
    → find_name 0 ds (name_of ds g) ≡ some (record { symbol = g; arity = n })
find_name_lem ds g n ns h =
    let s : 0 + g ≡ g = omega arith in
    ap (find_name 0 ds) (name_at ds g h.declaration h.at) ∙ find_from_lem ds 0 g h.declaration ns h.at h.kind
    ∙ ap₂ (λ (x y : ℕ). some (record { symbol = x; arity = y })) s h.arity

-- What is found is a function symbol of that name.
record Finds (k : ℕ) (ds : List Declaration) (n : List ℕ) (f : Found) : Type 0 where
  pub place : ℕ
  pub symbol : f.symbol ≡ k + place
  pub named : name_of ds place ≡ n
  pub declared : Declares ds true place f.arity

-- What is found from symbol k on is a function symbol of that name.
find_name_from : (ds : List Declaration) (k : ℕ) (n : List ℕ) → OnSome (Finds k ds n) (find_name k ds n)
unfolding find_name name_of name_in
find_name_from [] k n = tt
find_name_from (d ∷ ds) k n = go (same_bytes n d.name) refl (find_name_from ds (suc k) n)
  where
    later : (f : Found) → Finds (suc k) ds n f → Finds k (d ∷ ds) n f
    later f h =
        let e = h.symbol in
        record {
          place = suc h.place;
          symbol = omega arith;
          named = h.named;
          declared =
              record { declaration = h.declared.declaration; at = h.declared.at; kind = h.declared.kind; arity = h.declared.arity };
        }

    go : (b : Bool) → same_bytes n d.name ≡ b → OnSome (Finds (suc k) ds n) (find_name (suc k) ds n)
        → OnSome (Finds k (d ∷ ds) n) (find_name k (d ∷ ds) n)
    go true e ih =
        rw (e, find_name) (cond_some (Finds k (d ∷ ds) n) d.function (some (record { symbol = k; arity = d.arity })) none
        (λ q. record {
          place = 0;
          symbol = omega arith;
          named = sym (same_equal n d.name e);
          declared = record { declaration = d; at = refl; kind = q; arity = refl };
        })
        (λ q. tt))
    go false e ih = rw (e, find_name) (some_weaken (Finds (suc k) ds n) (Finds k (d ∷ ds) n) later (find_name (suc k) ds n) ih)

-- What is found from the first symbol on is a function symbol of that name.
pub find_name_some : (ds : List Declaration) (n : List ℕ)
    → OnSome (λ f. (name_of ds f.symbol ≡ n) × Declares ds true f.symbol f.arity) (find_name 0 ds n)
find_name_some ds n =
    some_weaken (Finds 0 ds n) (λ f. (name_of ds f.symbol ≡ n) × Declares ds true f.symbol f.arity)
    (λ f h. let s : h.place ≡ f.symbol = (let e = h.symbol in omega arith) in
    (subst (λ (x : ℕ). name_of ds x ≡ n) s h.named, subst (λ (x : ℕ). Declares ds true x f.arity) s h.declared))
    (find_name 0 ds n) (find_name_from ds 0 n)
