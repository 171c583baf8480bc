-- Request W-204 says what stays where no numbers stand: terms over declared symbols alone, as they were before.
use Rattle.terms.specs.Terms.{sheet_symbol, numeral, Term, leaf, app, Terms, nil, cons}

unfoldable mutual
  pub Numberless : {A : Type 0} → Term A → Type 0
  Numberless (leaf a) = Unit {0}
  Numberless (app (sheet_symbol f) ts) = NumberlessAll ts
  Numberless (app (numeral n) ts) = ⊥

  pub NumberlessAll : {A : Type 0} → Terms A → Type 0
  NumberlessAll nil = Unit {0}
  NumberlessAll (cons t ts) = Numberless t × NumberlessAll ts
