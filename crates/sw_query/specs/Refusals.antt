-- How the reasons of a refusal are printed.
use Rattle.std.specs.Prelude.{ℕ, List, codes}
use Rattle.sw_query.specs.declared.refusal.Why.{Why}
use Rattle.sw_query.specs.declared.refusal.Why.TheVariants as why

abbrev pub why_name : Why → List ℕ
why_name why.Encoding = codes "Encoding"
why_name why.Length = codes "Length"
why_name why.Word = codes "Word"
why_name why.End = codes "End"
why_name why.Value = codes "Value"
why_name why.History = codes "History"
why_name why.Cuts = codes "Cuts"
