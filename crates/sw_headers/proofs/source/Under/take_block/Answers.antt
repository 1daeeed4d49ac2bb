use Rattle.std.proofs.Common.{◌∙◌, ap}
use Rattle.sw_headers.specs.Steps.{going_on, place_after}
use Rattle.sw_headers.specs.declared.source.Under.{Under}
use Rattle.sw_headers.proofs.Coming.{block_taken}
use Rattle.sw_headers.proofs.source.Under.take_block.Goals as goal

pub returns-in_ok-take_in-clause-same : goal.returns-in_ok-take_in-clause-same
returns-in_ok-take_in-clause-same c = λ text ends.
    let old = c.args.self.now in
    let new : Under = record { rewriter = c.take_in.new.self; block = c.clear.new.self; is_over = old.is_over } in
    let h = old.rewriter.header.record.items in
    let k = old.rewriter.header.keeps.items in
    let e = c.in_ok-take_in.ensures in
    let same = c.as_slice.ensures.value in
    block_taken old new c.requires.none_waits c.requires.more c.requires.steps e.header
    (e.place ∙ ap (place_after h k old.rewriter.place) same) (e.went ∙ ap (going_on h k old.rewriter.place) same)
    c.clear.ensures.items c.requires.more text
