use Rattle.std.proofs.Common.{drop}
use Rattle.sw_cli.proofs.Going.{keeps_empty, sent_beginning, sent_part, sent_whole}
use Rattle.sw_cli.proofs.buffered.Buffered.end.Goals as goal

pub returns-in-Ok-send : goal.returns-in-Ok-send
returns-in-Ok-send g c = λ failed text wrote.
    let s = g.W.Sink in
    let b = c.send.new.self in
    rw c.into_sink.ensures.sink (sent_whole _ _ g.J.Base.base _ (s.taken b.sink) failed (s.failed c.args.self.sink) (s.failed b.sink) text (rw c.in-Ok.is at wrote) (keeps_empty _ _ b.sent b.block.items c.in-Ok-send.ensures.kept c.in-Ok-send.ensures.sent) c.in-Ok-send.ensures.went)

pub returns-in-Err-send : goal.returns-in-Err-send
returns-in-Err-send g c = λ failed text wrote.
    let s = g.W.Sink in
    let b = c.send.new.self in
    rw c.into_sink-in-Err-send.ensures.sink (sent_part _ g.J.Base.base _ (s.taken b.sink) (drop b.sent b.block.items) failed (s.failed c.args.self.sink) (s.failed b.sink) text (rw c.in-Ok.is at wrote) (rw c.into_sink-in-Err-send.ensures.sink at c.into_sink-in-Err-send.ensures.after) c.in-Err-send.ensures.kept c.in-Err-send.ensures.raised)

pub returns-in-Err : goal.returns-in-Err
returns-in-Err g c = λ failed text wrote.
    let s = g.W.Sink in
    let b = c.args.self in
    rw c.into_sink-in-Err.ensures.sink (sent_beginning c.in-Err.refusal g.J.Base.base (s.taken b.sink) (drop b.sent b.block.items) failed (s.failed b.sink) text (rw c.in-Err.is at wrote) (rw c.into_sink-in-Err.ensures.sink at c.into_sink-in-Err.ensures.after))
