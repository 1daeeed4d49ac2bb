use Rattle.std.proofs.Common.{◌≡◌, ap, inl, inr, length, refl, rules}
use Rattle.sw_histories.specs.FileChecks.{illegal_line, legal_line}
use Rattle.sw_histories.proofs.Found.FileCheckLemmas.{judged_part}
use Rattle.sw_histories.proofs.checking.judge.Goals as goal

pub returns-in-Ok : goal.returns-in-Ok
returns-in-Ok g c =
    let count : c.len.result ≡ length c.args.history.now.entries = search rules in
    judged_part c.args.history.now _ _ _ _ c.in-Err-write_legal.e 0 (legal_line c.len.result) (inl (c.in-Ok.ensures, refl, ap legal_line count)) c.in-Err-write_legal.ensures.part

pub returns-in-Err-NotLegal : goal.returns-in-Err-NotLegal
returns-in-Err-NotLegal g c = judged_part c.args.history.now _ _ _ _ c.in-Err-write_illegal.e 1 (illegal_line c.in-Err-NotLegal.index) (inr (c.in-Err-NotLegal.index, rw c.in-Err-NotLegal.field-0-is at c.in-Err-NotLegal.ensures, refl, refl)) (rw c.in-Err-NotLegal.index-is at c.in-Err-write_illegal.ensures.part)
