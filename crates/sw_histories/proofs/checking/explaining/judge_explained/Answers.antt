use Rattle.std.proofs.Common.{◌≡◌, ◌++◌, ap, inl, length, refl, rules, string_bytes}
use Rattle.sw_spine.specs.Checks.{IsFirstFault}
use Rattle.sw_histories.specs.FileChecks.{illegal_line, legal_line}
use Rattle.sw_histories.proofs.Found.ExplainedLemmas.{explained_fault, explained_part}
use Rattle.sw_histories.proofs.checking.explaining.judge_explained.Goals as goal

pub returns-in-Ok : goal.returns-in-Ok
returns-in-Ok g c =
    let count : c.len.result ≡ length c.args.history.now.entries = search rules in
    explained_part c.args.history.now _ _ _ _ c.in-Err-write_legal.e 0 (legal_line c.len.result) (inl (c.in-Ok.ensures, refl, ap legal_line count)) c.in-Err-write_legal.ensures.part

pub returns-in-Ok-write_explained : goal.returns-in-Ok-write_explained
returns-in-Ok-write_explained g c =
    let fault : IsFirstFault c.args.history.now c.in-Err-NotLegal.index = rw c.in-Err-NotLegal.field-0-is at c.in-Err-NotLegal.ensures in
    let why = string_bytes c.in_ok-why-in-Err-NotLegal.why in
    (illegal_line c.in-Err-NotLegal.index ++ why, explained_fault c.args.history.now c.in-Err-NotLegal.index why fault (rw c.in-Err-NotLegal.index-is at c.in_ok-why-in-Err-NotLegal.ensures.told), (rw (c.in-Err-NotLegal.index-is, c.as_bytes.ensures.value) at c.in-Ok-write_explained.ensures.whole).0, (rw (c.in-Err-NotLegal.index-is, c.as_bytes.ensures.value) at c.in-Ok-write_explained.ensures.whole).1)

pub returns-in-Err-NotLegal : goal.returns-in-Err-NotLegal
returns-in-Err-NotLegal g c =
    let fault : IsFirstFault c.args.history.now c.in-Err-NotLegal.index = rw c.in-Err-NotLegal.field-0-is at c.in-Err-NotLegal.ensures in
    let why = string_bytes c.in_ok-why-in-Err-NotLegal.why in
    explained_part c.args.history.now _ _ _ _ c.in-Err-write_explained.e 1 (illegal_line c.in-Err-NotLegal.index ++ why) (explained_fault c.args.history.now c.in-Err-NotLegal.index why fault (rw c.in-Err-NotLegal.index-is at c.in_ok-why-in-Err-NotLegal.ensures.told)) (rw (c.in-Err-NotLegal.index-is, c.as_bytes.ensures.value) at c.in-Err-write_explained.ensures.part)
