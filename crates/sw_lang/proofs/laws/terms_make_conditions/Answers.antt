use Rattle.std.proofs.Common.{◌≡◌, ◌∙◌, List, [], ◌∷◌, fold, refl}
use Rattle.sw_query.specs.declared.query.Cond.{Cond}
use Rattle.sw_lang.specs.declared.reading.term.Term.{Term}
use Rattle.sw_lang.specs.Terms.{add_term}
use Rattle.sw_lang.proofs.Parsing.Merge.{conds_from, conds_from-conditions}
use Rattle.sw_lang.proofs.laws.terms_make_conditions.Goals as goal

fold-conds : (conds : List Cond) (ts : List Term) → fold add_term conds ts ≡ conds_from conds ts
fold-conds conds [] = refl
fold-conds conds (t ∷ ts) = fold-conds (add_term conds t) ts

pub returns : goal.returns
returns c = λ ts. fold-conds [] ts ∙ conds_from-conditions ts
