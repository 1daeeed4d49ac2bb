use Rattle.std.proofs.Common.{◌≡◌, List, ℕ, map, lit<, subst, IfOk}
use Rattle.std.proofs.lemmas.Iterator.Consumers.{map_from_collect}
use Rattle.std.proofs.lemmas.Iterator.Splits.{YieldsList-from_str_split}
use Rattle.sw_headers.proofs.Asked.{words_split}
use Rattle.sw_headers.proofs.header.words_of.Goals as goal

pub returns : goal.returns
returns c = subst (λ (ws : List (List ℕ)). IfOk c.collect.result (λ found. map (λ word. word.now) found.items ≡ ws)) (words_split c.args.asked.now)
    (map_from_collect _ c.collect.ensures.ran (YieldsList-from_str_split 44 c.args.asked.now (lit< tt) c.split.ensures.text c.split.ensures.has_more c.split.ensures.pattern))
