use Rattle.std.proofs.Common.{◌≡◌, ap, sym, ◌∙◌, List, ℕ, [], ◌∷◌, cond, true, false, Bool, refl}
use Rattle.csv.specs.Reading.{default_config, records}
use Rattle.csv.specs.Records.{fields_of}
use Rattle.sw_rows.proofs.Loads.CutLaws.{unmarked}
use Rattle.sw_rows.proofs.loading.parts.read_head.Goals as goal

one_record : (all first rest : List (List (List ℕ))) (h k : List (List ℕ)) (a b : Bool) → a ≡ true → b ≡ false → all ≡ first → first ≡ cond a (h ∷ rest) [] → (more : List (List (List ℕ))) → rest ≡ cond b (k ∷ more) [] → all ≡ h ∷ []
one_record all first rest h k a b e f s p more q = s ∙ p ∙ rw (e, q, f) refl

pub returns-in-Ok-false-clause-head : goal.returns-in-Ok-false-clause-head
returns-in-Ok-false-clause-head c = (fields_of c.next.new.self.row, one_record _ _ _ (fields_of c.next.new.self.row) _ _ _ c.in-Ok-true.field-0-test c.in-Ok-false.field-0-test (ap (records default_config) (sym (unmarked c.args.head.now c.requires)) ∙ sym c.of-records.ensures.all) c.in-Ok-true.ensures.row _ c.in-Ok-false.ensures.row, c.in-Ok.ensures.gives)
