use Rattle.std.proofs.Common.{IsUtf8, subst, sym}
use Rattle.std.proofs.lemmas.Bool.{false≢true}
use Rattle.sw_histories.proofs.Back.RecordTextLemmas.{call_utf8}
use Rattle.sw_histories.proofs.writing.call_string.Goals as goal

pub unreachable-requires : goal.unreachable-requires
unreachable-requires c = false≢true (c.in-Err.ensures.succeeds (subst IsUtf8 (sym c.in_ok-bytes.ensures) (call_utf8 c.args.schema.now c.args.call.now c.len-width.ensures.schema)))
