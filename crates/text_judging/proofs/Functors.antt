-- What stands before the arguments of a written term, a name or a number: its bytes, and that `find_head` finds what is so spelled, and only
-- that.
use Prim.Native.Nat.{ℕ, ◌≤◌}
use Prim.Native.Char.{code}
use mathlib.Core.Path.{◌≡◌, refl, sym, ◌∙◌, ap, ap₂, subst}
use mathlib.Core.Bool.{true, false}
use mathlib.Core.List.{List, [], ◌∷◌}
use mathlib.Core.Option.{Option, none, some}
use lib.Dec.{eqb}
use lib.ListN.{length}
use borrow.Author.Tests.{ne_eqb}
use native.Mathlib.Omega.{arith}
use Rattle.terms.specs.Terms.{Functor, sheet_symbol, numeral}
use Rattle.terms.proofs.Lists.{all_weaken}
use Rattle.sheet_format.specs.Limits.{max_number}
use Rattle.sheet_format.specs.Bytes.{is_digit, is_name_byte, number, decimal, is_name}
use Rattle.sheet_format.specs.Nodes.{Declaration}
use Rattle.sheet_format.proofs.Options.{OnSome}
use Rattle.sheet_format.proofs.Bytes.{Every, digit_bounds, letter_bounds, digit_name, name_nonempty, name_letter, name_kinds}
use Rattle.sheet_format.proofs.Numbers.{decimal_digits, decimal_first, number_decimal, number_some, number_name}
use Rattle.sheet_format.proofs.Names.{Names}
use Rattle.sheet_format.proofs.Formed.{Declares}
use Rattle.answer_texts.specs.Spelling.{name_of, spell_functor}
use Rattle.answer_texts.specs.Spelled.{WritableFunctor}
use Rattle.answer_texts.proofs.Declared.{has_arity_lem, arity_has, name_of_lem}
use Rattle.text_judging.specs.Reading.{Found, find_name, Head, head_of, find_head}
use Rattle.text_judging.proofs.Symbols.{find_name_lem, find_name_some}

-- The bytes of a name or a number: bytes of names, the first of which is neither `!` nor `_`.
abbrev pub Starts : List ℕ → Type 0
Starts [] = ⊥
Starts (c ∷ cs) = (eqb c (code "!") ≡ false) × (eqb c (code "_") ≡ false) × Every is_name_byte (c ∷ cs)

-- A name starts a term.
name_starts : (b : List ℕ) → is_name b ≡ true → Starts b
name_starts [] h = name_nonempty h
name_starts (c ∷ cs) h =
    let l = letter_bounds c (name_letter c cs h) in
    (ne_eqb c 33 (λ e. omega arith), ne_eqb c 95 l.2, name_kinds (c ∷ cs) h)

-- Digits start a term.
digits_start : (c : ℕ) (cs : List ℕ) → Every is_digit (c ∷ cs) → Starts (c ∷ cs)
digits_start c cs h =
    let l = digit_bounds c h.0 in
    (ne_eqb c 33 (λ e. omega arith), ne_eqb c 95 (λ e. omega arith), all_weaken (λ d. is_digit d ≡ true) (λ d. is_name_byte d ≡ true) digit_name (c ∷ cs) h)

-- So does each functor that can be written.
pub functor_starts : (ds : List Declaration) (g : Functor) (n : ℕ) → Names ds → WritableFunctor ds g n → Starts (spell_functor ds g)
unfolding spell_functor WritableFunctor
functor_starts ds (sheet_symbol g) n ns w = name_starts (name_of ds g) (name_of_lem ds g n ns (has_arity_lem ds g n w))
functor_starts ds (numeral m) n ns w =
    let r = decimal_first m in
    subst Starts (sym r.2) (digits_start r.0 r.1 (subst (Every is_digit) r.2 (decimal_digits m)))

-- A functor is found by its spelling.
pub find_head_lem : (ds : List Declaration) (g : Functor) (n : ℕ) → Names ds → WritableFunctor ds g n → find_head ds (spell_functor ds g) ≡ some (record { functor = g; arity = n })
unfolding find_head head_of spell_functor WritableFunctor
find_head_lem ds (sheet_symbol g) n ns w =
    let d = has_arity_lem ds g n w in
    ap₂ head_of (number_name (name_of ds g) (name_of_lem ds g n ns d)) (find_name_lem ds g n ns d)
find_head_lem ds (numeral m) n ns w =
    ap (λ (o : Option ℕ). head_of o (find_name 0 ds (decimal m))) (number_decimal m w.1) ∙ ap (λ (k : ℕ). some (record { functor = numeral m; arity = k })) (sym w.0)

-- What is found is so spelled, and can be written before so many arguments.
pub find_head_some : (ds : List Declaration) (b : List ℕ) → OnSome (λ h. (spell_functor ds h.functor ≡ b) × WritableFunctor ds h.functor h.arity) (find_head ds b)
unfolding find_head head_of spell_functor WritableFunctor
find_head_some ds b = go (number b) (number_some b) (find_name 0 ds b) (find_name_some ds b)
  where
    Right : Head → Type 0
    Right h = (spell_functor ds h.functor ≡ b) × WritableFunctor ds h.functor h.arity

    go : (o : Option ℕ) → OnSome (λ n. (b ≡ decimal n) × (n ≤ max_number)) o
        → (p : Option Found) → OnSome (λ f. (name_of ds f.symbol ≡ b) × Declares ds true f.symbol f.arity) p → OnSome Right (head_of o p)
    go (some n) h p k = (sym h.0, (refl, h.1))
    go none h none k = tt
    go none h (some f) k = (k.0, arity_has ds f.symbol f.arity k.1)

-- There is at least one byte that starts a term.
pub starts_length : (b : List ℕ) → Starts b → 1 ≤ length b
starts_length [] h = absurd h
starts_length (c ∷ cs) h = omega arith
