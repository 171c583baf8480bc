-- The terms of a D line's prefix: reading them name by name into a frame succeeds exactly if the rest of the line is so many terms, none
-- above the level.
use Prim.Native.Nat.{ℕ, zero, suc, ◌+◌, ◌/◌, ◌%◌, ◌<◌}
use native.Mathlib.Omega.{arith}
use mathlib.Core.Path.{◌≡◌, refl, sym, ap, ap₂, ◌∙◌, subst}
use mathlib.Core.Bool.{Bool, true, false, ◌||◌, cond, true≢false}
use mathlib.Core.List.{List, [], ◌∷◌, ◌++◌, append_assoc, append_cancel_left, cons≢nil}
use mathlib.Core.Option.{Option, none, some}
use lib.Dec.{eqb, leb}
use lib.ListN.{length, get_or, drop, length-append}
use lib.Seq.{drop-append_seam}
use borrow.Author.Tests.{eqb-true, ne_eqb, le-leb}
use Rattle.terms.specs.Lists.{All, elem, update}
use Rattle.formulas.proofs.Free.{and_parts}
use Rattle.sequents.specs.Symbols.{Symbol, Ground, level}
use Rattle.sequents.specs.Sequents.{Environment, assign}
use Rattle.sheet_format.specs.Bytes.{lf, is_name_byte, is_letter, is_small, is_capital, is_digit}
use Rattle.sheet_format.specs.Nodes.{Declaration}
use Rattle.sheet_format.proofs.Names.{Names}
use Rattle.sheet_format.specs.Limits.{variable_names}
use Rattle.answer_texts.specs.Spelling.{spell_term}
use Rattle.answer_texts.specs.Spelled.{WritableTerm}
use Rattle.text_judging.specs.Reading.{Parsed, parsed, read_term}
use Rattle.text_judging.specs.Judging.{all_low}
use Rattle.text_judging.proofs.ReadTerms.{read_term_lem}
use Rattle.answer_texts.proofs.FirstShowings.{and_both}
use Rattle.scanning.specs.Scanning.{Scan}
use Rattle.std.proofs.lemmas.Option.{some_pair_parts}
use Rattle.std.specs.Prelude.{Some, None}
use Rattle.scanning.specs.Scanning.{scan_term}
use Rattle.scanning.specs.Frames.{put_range}
use Rattle.scanning.proofs.Positions.{byte_is, drop_next}
use Rattle.scanning.proofs.TermsInText.{SpelledAt, ScansTerm}
use Rattle.scanning.proofs.Folding.{byte_test}
use Rattle.scanning.proofs.InstanceSpelling.{Frame}
use Rattle.scanning.proofs.Records.{Room, Kept, kept_self, kept_then, kept_room, slot_kept}
use Rattle.scanning.proofs.Frames.{frame_put}
use Rattle.line_checking.specs.Clauses.{Read, read, prefix_term, prefix_at, prefix_from}
use Rattle.line_checking.proofs.Lines.{tabbed, tabbed_stops}
use Rattle.line_checking.proofs.Representation.{Setting, folds, declared, Filled}
use Rattle.line_checking.proofs.Terms.{scanned_there, scan_at, spelled_at, scan_there}
use Rattle.clause_members.proofs.Prefixes.{names_of}

-- only record q is written

-- Reading a term writes only record q.
term_kept : (w : List ℕ) (q v i j k m e : ℕ) → v < variable_names → Kept q w (prefix_term w q v i j k m e).memory
unfolding prefix_term
term_kept w q v i j k m e l = go (leb j e) (leb k m)
  where
    go : (a b : Bool) → Kept q w (cond a (cond b (read (put_range w q v i j) (Some (j, k))) (read w None)) (read w None)).memory
    go true true = slot_kept w q v i j l
    go true false = kept_self q w
    go false b = kept_self q w

-- Reading a tab and a term writes only record q.
at_kept : (b t : List ℕ) (symbols : ℕ) (x w : List ℕ) (q v i m e : ℕ) → v < variable_names
    → Kept q w (prefix_at b t symbols x w q v i m e).memory
unfolding prefix_at
at_kept b t symbols x w q v i m e l = go (eqb (get_or x i 0) 9) (scan_term (length x) b t symbols x (i + 1))
  where
    go : (a : Bool) (s : Scan)
        → Kept q w (cond a (elim s as (λ z. Read) [ Some (j, k) ↦ prefix_term w q v (i + 1) j k m e | None ↦ read w None ])
        (read w None)).memory
    go true (Some (j, k)) = term_kept w q v (i + 1) j k m e l
    go true None = kept_self q w
    go false s = kept_self q w

-- Reading all terms of a prefix writes only record q.
pub prefix_kept : (n : ℕ) (b t : List ℕ) (symbols : ℕ) (x w : List ℕ) (q vs i m e : ℕ)
    → Kept q w (prefix_from n b t symbols x w q vs i m e).memory
unfolding prefix_from
prefix_kept zero b t symbols x w q vs i m e = kept_self q w
prefix_kept (suc n) b t symbols x w q vs i m e =
    go a.scan (at_kept b t symbols x w q (vs % 8) i m e (omega arith)) (λ j. prefix_kept n b t symbols x a.memory q (vs / 8) j m e)
  where
    a : Read
    a = prefix_at b t symbols x w q (vs % 8) i m e

    go : (s : Scan) → Kept q w a.memory
        → ((j : ℕ) → Kept q a.memory (prefix_from n b t symbols x a.memory q (vs / 8) j m e).memory)
        → Kept q w (elim s as (λ z. Read) [ Some (j, k) ↦ prefix_from n b t symbols x a.memory q (vs / 8) j m e | None ↦ a ]).memory
    go (Some (j, k)) h ih = kept_then q w a.memory (prefix_from n b t symbols x a.memory q (vs / 8) j m e).memory h (ih j)
    go None h ih = h

-- equal lists

-- What follows parts of one length in equal lists is equal.
same_rest : (a b x y : List ℕ) → length a ≡ length b → a ++ x ≡ b ++ y → x ≡ y
same_rest a b x y n e = sym (drop-append_seam a x) ∙ ap₂ drop n e ∙ drop-append_seam b y

-- What follows the first byte in equal lists is equal.
tail_same : {a b : ℕ} {x y : List ℕ} → a ∷ x ≡ b ∷ y → x ≡ y
tail_same h = cc

module _ (c : Setting) (filled : Filled c) (q m e : ℕ) (rest : List ℕ) where
  -- The declared symbols are those of the table.
  abbrev ds : List Declaration
  ds = declared c

  -- The terms can be written, one for each name, none above the level.
  pub record Fits (vs : List ℕ) (ts : List Ground) : Type 0 where
    pub writable : All (λ t. WritableTerm t ds) ts
    pub many : length ts ≡ length vs
    pub low : all_low m ts ≡ true

  -- Reading terms for the names vs from the rest l of the line.
  pub data PrefixCase (w l : List ℕ) (vs : List ℕ) (a : Read) : Type 0 where
    all_read : (ts : List Ground) → l ≡ tabbed ts ds → Fits vs ts → (k : ℕ) → a.scan ≡ Some (e, k)
        → ((d : Environment Symbol) (p p' : ℕ → Bool) → ((z : ℕ) → p' z ≡ true → elem z vs ≡ false → p z ≡ true)
        → Frame ds (folds c) w q d p → Frame ds (folds c) a.memory q (assign vs ts d) p')
        → PrefixCase w l vs a
    not_read : ((ts : List Ground) → l ≡ tabbed ts ds → Fits vs ts → ⊥) → ((j k : ℕ) → a.scan ≡ Some (j, k) → eqb j e ≡ false)
        → PrefixCase w l vs a

  -- Where no name is left, all terms were read exactly if the line ends there.
  no_names : (w l : List ℕ) (i : ℕ) → e ≡ i + length l → PrefixCase w l [] (read w (Some (i, 0)))
  unfolding tabbed assign all_low elem
  no_names w [] i k =
      all_read [] refl (record { writable = tt; many = refl; low = refl }) 0
      (ap (λ (z : ℕ). Some (z, 0)) (let z : i ≡ e = omega arith in z)) (λ d p p' h f v u g. f v u (h v g refl))
  no_names w (b ∷ l) i k = not_read (λ ts p f. empty ts p f.many) (λ j n h. ne_eqb j e (λ z. let o = (some_pair_parts i j 0 n h).0 in omega arith))
    where
      empty : (ts : List Ground) → b ∷ l ≡ tabbed ts ds → length ts ≡ 0 → ⊥
      empty [] p z = cons≢nil p
      empty (t ∷ ts) p z = omega arith

  -- Where no terms fit and nothing was read, the case is `not-read`.
  failed : (w l vs : List ℕ) (w' : List ℕ) → ((ts : List Ground) → l ≡ tabbed ts ds → Fits vs ts → ⊥)
      → PrefixCase w l vs (read w' None)
  failed w l vs w' h = not_read h (λ j k z. absurd (let o : ◌≡◌ {A = ℕ} 0 1 = cc in omega arith))

  -- Where a term is due there is at least one term, after a tab.
  first_of : (l : List ℕ) (v : ℕ) (vs : List ℕ)
      → ((t : Ground) (ts : List Ground) → l ≡ 9 ∷ (spell_term t ds ++ tabbed ts ds) → WritableTerm t ds → leb (level t) m ≡ true
      → Fits vs ts → ⊥)
      → (ts : List Ground) → l ≡ tabbed ts ds → Fits (v ∷ vs) ts → ⊥
  unfolding tabbed all_low
  first_of l v vs h [] p f = let z = f.many in omega arith
  first_of l v vs h (t ∷ ts) p f =
      let o = and_parts (leb (level t) m) (all_low m ts) f.low in
      h t ts p f.writable.0 o.0
      (record { writable = f.writable.1; many = (let z = f.many in let y : length ts ≡ length vs = omega arith in y); low = o.1 })

  -- A term before other terms or the end of the line is scanned.
  scan_tabbed : (i : ℕ) (t : Ground) (ts : List Ground) → drop i (folds c) ≡ spell_term t ds ++ (tabbed ts ds ++ (lf ∷ rest))
      → WritableTerm t ds
      → scan_at c i ≡ Some (i + length (spell_term t ds), level t)
  unfolding tabbed is_name_byte is_letter is_small is_capital is_digit
  scan_tabbed i t [] h w = scan_there c filled i t lf rest h w refl
  scan_tabbed i t (u ∷ ts) h w = scan_there c filled i t 9 ((spell_term u ds ++ tabbed ts ds) ++ (lf ∷ rest)) h w refl

  -- A term before other terms or the end of the line stands in the text.
  spelled_at_tabbed : (i : ℕ) (t : Ground) (ts : List Ground) → drop i (folds c) ≡ spell_term t ds ++ (tabbed ts ds ++ (lf ∷ rest))
      → WritableTerm t ds
      → SpelledAt ds (folds c) i (i + length (spell_term t ds)) t
  unfolding tabbed is_name_byte is_letter is_small is_capital is_digit
  spelled_at_tabbed i t [] h w = spelled_at c filled i t lf rest h w refl
  spelled_at_tabbed i t (u ∷ ts) h w = spelled_at c filled i t 9 ((spell_term u ds ++ tabbed ts ds) ++ (lf ∷ rest)) h w refl

  -- Putting the term of the name v into a frame gives a frame for v and the names it had.
  frame_next : (w : List ℕ) (v i j : ℕ) (t : Ground) (vs : List ℕ) (d : Environment Symbol) (p p' : ℕ → Bool) → Room q w
      → v < variable_names → SpelledAt ds (folds c) i j t
      → ((z : ℕ) → p' z ≡ true → elem z (v ∷ vs) ≡ false → p z ≡ true) → Frame ds (folds c) w q d p
      → (o : ℕ → Bool) × Frame ds (folds c) (put_range w q v i j) q (update d v t) o
      × ((z : ℕ) → p' z ≡ true → elem z vs ≡ false → o z ≡ true)
  unfolding elem
  frame_next w v i j t vs d p p' room l s h f =
      (o, frame_put ds (folds c) q v i j t w d p o room l s fewer f, λ z a b. still z a b (eqb v z) refl)
    where
      o : ℕ → Bool
      o z = eqb v z || p z

      fewer : (z : ℕ) → (z ≡ v → ⊥) → (eqb v z || p z) ≡ true → p z ≡ true
      fewer z n g = go (eqb v z) refl g
        where
          go : (a : Bool) → eqb v z ≡ a → (a || p z) ≡ true → p z ≡ true
          go true y k = absurd (n (sym (eqb-true v z y)))
          go false y k = k

      still : (z : ℕ) → p' z ≡ true → elem z vs ≡ false → (a : Bool) → eqb v z ≡ a → (eqb v z || p z) ≡ true
      still z a b true y = rw y
      still z a b false y = rw y (h z a (rw (elem, y) b))

  -- Reading for n names, the digits of a.
  pub prefix_case : (n a i : ℕ) (w l : List ℕ) → Room q w → drop i (folds c) ≡ l ++ (lf ∷ rest) → e ≡ i + length l
      → PrefixCase w l (names_of n a) (prefix_from n c.bytes c.table c.symbols c.text w q a i m e)
  unfolding prefix_from names_of prefix_at prefix_term tabbed all_low assign is_letter is_small is_capital
  prefix_case zero a i w l room h k = no_names w l i k
  prefix_case (suc n) a i w l room h k = go (eqb (get_or c.text i 0) 9) refl (λ j w' l'. prefix_case n (a / 8) j w' l')
    where
      v : ℕ
      v = a % 8

      vs : List ℕ
      vs = names_of n (a / 8)

      -- This reads what follows the first term.
      next : Read → Read
      next b =
          elim b.scan as (λ z. Read) [
            | Some (j, k) ↦ prefix_from n c.bytes c.table c.symbols c.text b.memory q
                (a / 8) j m e
            | None ↦ b
          ]

      Later : Type 0
      Later = (j : ℕ) (w' l' : List ℕ) → Room q w' → drop j (folds c) ≡ l' ++ (lf ∷ rest) → e ≡ j + length l'
          → PrefixCase w' l' vs (prefix_from n c.bytes c.table c.symbols c.text w' q (a / 8) j m e)

      P : Read → Type 0
      P = PrefixCase w l (v ∷ vs)

      -- A line that begins with a term is scanned as that term.
      begins_so : (t : Ground) (ts : List Ground) → l ≡ 9 ∷ (spell_term t ds ++ tabbed ts ds) → WritableTerm t ds
          → scan_at c (i + 1) ≡ Some (i + 1 + length (spell_term t ds), level t)
      begins_so t ts p y =
          scan_tabbed (i + 1) t ts (drop_next (folds c) i 9 ((spell_term t ds ++ tabbed ts ds) ++ (lf ∷ rest)) (h ∙ ap (◌++ (lf ∷ rest)) p)
          ∙ append_assoc (spell_term t ds) (tabbed ts ds) (lf ∷ rest)) y

      -- The case of all terms follows from the first term and the case of the others.
      joined : (u : Ground) (more : List ℕ) (j k : ℕ) (b : Read) → scan_at c (i + 1) ≡ Some (j, k) → l ≡ 9 ∷ (spell_term u ds ++ more)
          → WritableTerm u ds
          → j ≡ i + 1 + length (spell_term u ds) → leb (level u) m ≡ true → drop (i + 1) (folds c) ≡ spell_term u ds ++ (more ++ (lf ∷ rest))
          → PrefixCase (put_range w q v (i + 1) j) more vs b → P b
      joined u more j k b x p y z low d (all_read ts r f o s g) =
          all_read (u ∷ ts) (p ∙ ap (λ (t : List ℕ). 9 ∷ (spell_term u ds ++ t)) r)
          (record { writable = (y, f.writable); many = ap suc f.many; low = and_both (leb (level u) m) (all_low m ts) low f.low }) o s
          (λ d₀ p₀ p' h₀ f₀.
          let t = frame_next w v (i + 1) j u vs d₀ p₀ p' room (omega arith)
          (subst (λ (n : ℕ). SpelledAt ds (folds c) (i + 1) n u) (sym z)
          (spelled_at_tabbed (i + 1) u ts (d ∙ ap (λ (t : List ℕ). spell_term u ds ++ (t ++ (lf ∷ rest))) r) y)) h₀ f₀ in
          g (update d₀ v u) t.0 p' t.2 t.1)
      joined u more j k b x p y z low d (not_read r s) =
          not_read (first_of l v vs (λ t ts o y₀ l₀ f.
          let e₀ : Some (j, k) ≡ Some (i + 1 + length (spell_term t ds), level t) = sym x ∙ begins_so t ts o y₀ in
          let n : length (spell_term u ds) ≡ length (spell_term t ds) = (let g = (some_pair_parts j (i + 1 + length (spell_term t ds)) k (level t) e₀).0 in omega arith) in
          r ts (same_rest (spell_term u ds) (spell_term t ds) more (tabbed ts ds) n
          (let g : spell_term u ds ++ more ≡ spell_term t ds ++ tabbed ts ds = tail_same (sym p ∙ o) in g)) f)) s

      scanned : (j k : ℕ) → scan_at c (i + 1) ≡ Some (j, k) → (l' : List ℕ) → l ≡ 9 ∷ l' → drop (i + 1) (folds c) ≡ l' ++ (lf ∷ rest) → Later
          → P (next (prefix_term w q v (i + 1) j k m e))
      scanned j k₀ s l' p d ih =
          subst (λ (b : Bool). P (next (cond b (cond (leb k₀ m) (read w₁ (Some (j, k₀))) (read w None)) (read w None))))
          (sym (le-leb j e (let x = ap length p in let y = ap length t.spelled
          ∙ length-append (spell_term t.term ds) t.more in let o = t.end in let g = k in omega arith))) (low (leb k₀ m) refl)
        where
          w₁ : List ℕ
          w₁ = put_range w q v (i + 1) j

          t : ScansTerm ds (folds c) (i + 1) l' rest j k₀
          t = scanned_there c filled (i + 1) l' rest j k₀ d s

          low : (b : Bool) → leb k₀ m ≡ b → P (next (cond b (read w₁ (Some (j, k₀))) (read w None)))
          low true b =
              joined t.term t.more j k₀ (prefix_from n c.bytes c.table c.symbols c.text w₁ q (a / 8) j m e) s (p
              ∙ ap (9 ∷◌) t.spelled) t.writable t.end
              (ap (λ (x : ℕ). leb x m) (sym t.level_is) ∙ b) (d ∙ ap (◌++ (lf ∷ rest)) t.spelled
              ∙ append_assoc (spell_term t.term ds) t.more (lf ∷ rest))
              (ih j w₁ t.more (kept_room q q w w₁ (slot_kept w q v (i + 1) j (omega arith)) room) t.rest
              (let x = ap length p in let y = ap length t.spelled ∙ length-append (spell_term t.term ds) t.more in let o =
              t.end in let g = k in omega arith))
          low false b =
              failed w l (v ∷ vs) w (first_of l v vs (λ u ts o y₀ l₀ f.
              true≢false (sym l₀ ∙ ap (λ (x : ℕ). leb x m) (sym (some_pair_parts j (i + 1 + length (spell_term u ds)) k₀ (level u) (sym s ∙ begins_so u ts o y₀)).1) ∙ b)))

      term : (s : Scan) → scan_at c (i + 1) ≡ s → (l' : List ℕ) → l ≡ 9 ∷ l' → drop (i + 1) (folds c) ≡ l' ++ (lf ∷ rest) → Later
          → P (next (elim s as (λ z. Read) [ Some (j, k) ↦ prefix_term w q v (i + 1) j k m e | None ↦ read w None ]))
      term (Some (j, k)) s l' p d ih = scanned j k s l' p d ih
      term None s l' p d ih =
          failed w l (v ∷ vs) w
          (first_of l v vs (λ t ts o y u f. let z : None ≡ Some (i + 1 + length (spell_term t ds), level t) = sym s
          ∙ begins_so t ts o y in let x : ◌≡◌ {A = ℕ} 0 1 = cc in omega arith))

      -- The line goes on with a tab.
      tab : (l' : List ℕ) → l ≡ l' → eqb (get_or (folds c) i 0) 9 ≡ true → Later
          → P (next (elim (scan_at c (i + 1)) as (λ z. Read) [
            | Some (j, k) ↦ prefix_term w q v (i + 1) j k m e
            | None ↦
                read w None
          ]))
      tab [] p b ih = absurd (true≢false (sym b ∙ ap (λ (z : ℕ). eqb z 9) (byte_is (folds c) i lf rest (h ∙ ap (◌++ (lf ∷ rest)) p))))
      tab (x ∷ l') p b ih =
          let y = h ∙ ap (◌++ (lf ∷ rest)) p in
          let z : x ≡ 9 = sym (byte_is (folds c) i x (l' ++ (lf ∷ rest)) y) ∙ eqb-true (get_or (folds c) i 0) 9 b in
          term (scan_at c (i + 1)) refl l' (p ∙ ap (◌∷ l') z) (drop_next (folds c) i x (l' ++ (lf ∷ rest)) y) ih

      go : (b : Bool) → eqb (get_or c.text i 0) 9 ≡ b → Later
          → P (next (prefix_at c.bytes c.table c.symbols c.text w q v i m e))
      go true b ih = rw (prefix_at, b) (tab l refl (byte_test c.text 9 i refl ∙ b) ih)
      go false b ih =
          rw (prefix_at, b) (failed w l (v ∷ vs) w (first_of l v vs (λ t ts o y u f.
          true≢false
          (sym (ap (λ (z : ℕ). eqb z 9) (byte_is (folds c) i 9 ((spell_term t ds ++ tabbed ts ds) ++ (lf ∷ rest)) (h
          ∙ ap (◌++ (lf ∷ rest)) o))) ∙ byte_test c.text 9 i refl ∙ b))))

-- The terms are fixed by their bytes.
pub tabbed_injective : (ds : List Declaration) → Names ds → (ts us : List Ground) → All (λ t. WritableTerm t ds) ts
    → All (λ t. WritableTerm t ds) us → tabbed ts ds ≡ tabbed us ds → ts ≡ us
unfolding tabbed
tabbed_injective ds ns [] [] w v e = refl
tabbed_injective ds ns [] (u ∷ us) w v e = absurd (cons≢nil (sym e))
tabbed_injective ds ns (t ∷ ts) [] w v e = absurd (cons≢nil e)
tabbed_injective ds ns (t ∷ ts) (u ∷ us) w v e =
    let f = length (spell_term t ds) + length (spell_term u ds) in
    let h = tail_same e in
    let r : parsed t (tabbed ts ds ++ (lf ∷ [])) ≡ parsed u (tabbed us ds ++ (lf ∷ [])) =
    sym (read_term_lem t ds f (tabbed ts ds ++ (lf ∷ [])) ns w.0 (omega arith) (tabbed_stops ts ds []))
    ∙ ap (read_term f ds) (sym (append_assoc (spell_term t ds) (tabbed ts ds) (lf ∷ [])) ∙ ap (◌++ (lf ∷ [])) h
    ∙ append_assoc (spell_term u ds) (tabbed us ds) (lf ∷ []))
    ∙ read_term_lem u ds f (tabbed us ds ++ (lf ∷ [])) ns v.0 (omega arith) (tabbed_stops us ds []) in
    let a : t ≡ u = ap (value_or t) r in
    let b : tabbed ts ds ≡ tabbed us ds = append_cancel_left (spell_term u ds) (tabbed ts ds) (tabbed us ds)
    (ap (λ (z : Ground). spell_term z ds ++ tabbed ts ds) (sym a) ∙ h) in
    ap₂ ◌∷◌ a (tabbed_injective ds ns ts us w.1 v.1 b)
  where
    value_or : Ground → Option (Parsed Ground) → Ground
    value_or z none = z
    value_or z (some p) = p.value
