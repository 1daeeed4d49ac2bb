use Rattle.std.proofs.Common.{◌≡◌, ◌-◌, ap, get_or, rules, string_bytes}
use Rattle.std.proofs.lemmas.Result.{IfOk-weaker}
use Rattle.sw_spine.specs.History.{History}
use Rattle.sw_histories.proofs.Found.ExplainedLemmas.{explains}
use Rattle.sw_histories.proofs.checking.explaining.explanation_text.Goals as goal

pub returns : goal.returns
returns c =
    let h : History = c.args.history.now in
    let e = c.index-entry.result.now in
    let same : c.history.inside.schema ≡ h.columns = ap (λ (o : History). o.columns) c.history.view_is in
    let is : e ≡ get_or h.entries (c.args.place - 1) e = search rules in
    IfOk-weaker c.format.result _ _ (λ text told. explains h c.history.inside.schema c.args.place e c.args.listed.now (string_bytes c.in_ok-named.named) (string_bytes c.in_ok-parted.parted) (string_bytes c.in_ok-more.more) (string_bytes text) same c.requires.some c.requires.within is c.requires.listed c.in_ok-named.ensures (rw (c.in_ok-lines.ensures, c.call.ensures) at c.in_ok-parted.ensures) (rw (c.as_str.ensures.value, c.as_str-2.ensures.value, c.as_str-3.ensures.value) at told)) c.format.ensures.ok
