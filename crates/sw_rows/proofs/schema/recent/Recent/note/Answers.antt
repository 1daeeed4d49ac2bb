use Rattle.std.proofs.Common.{◌∙◌, ap, sym, Some}
use Rattle.sw_rows.specs.Slots.{IsTrueOf}
use Rattle.sw_rows.specs.Texts.{code_of}
use Rattle.sw_rows.proofs.schema.recent.Recent.note.Goals as goal

pub returns-in_default-put : goal.returns-in_default-put
returns-in_default-put c ts coded were =
    let is = c.in-Some.ensures in
    let noted : IsTrueOf ts c.in-Some.slot = ap (code_of ts) is.0 ∙ coded ∙ ap (λ n. Some n) (sym is.1) in
    c.put.ensures ts noted (c.widen.ensures ts were)

pub returns-in-Some-get_mut : goal.returns-in-Some-get_mut
returns-in-Some-get_mut c ts coded were =
    let is = c.in-Some.ensures in
    let noted : IsTrueOf ts c.in-Some.slot = ap (code_of ts) is.0 ∙ coded ∙ ap (λ n. Some n) (sym is.1) in
    c.put.ensures ts noted (c.widen.ensures ts were)

pub returns-in_default-get_mut : goal.returns-in_default-get_mut
returns-in_default-get_mut c ts coded were =
    let is = c.in-Some.ensures in
    let noted : IsTrueOf ts c.in-Some.slot = ap (code_of ts) is.0 ∙ coded ∙ ap (λ n. Some n) (sym is.1) in
    c.put.ensures ts noted (c.widen.ensures ts were)
