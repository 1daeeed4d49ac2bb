use Rattle.sw_cli.specs.Outcomes.{blocks_told, text_of}
use Rattle.sw_cli.specs.Sides.{sink_seen}
use Rattle.sw_cli.proofs.Going.{goes_out}
use Rattle.sw_cli.proofs.flowing.flow_since.Goals as goal

pub returns : goal.returns
returns g c =
    let s = g.W.Sink in
    let b = c.flow_pages-tickets.new.out in
    let f = c.flow_pages-tickets.ensures in
    let ps = c.args.flow.pages in
    record {
      told = f.told;
      all = f.all;
      why = f.why;
      are = f.are;
      out = goes_out g.B.Base.base (s.taken c.args.sink) _ (s.failed c.args.sink) _ b.sent b.block.items (sink_seen _ _ _ _) c.flow_pages-tickets.result.1 c.end-sink.result.1 (text_of ps.schema.now (blocks_told ps.blocks.items f.told)) c.end-sink.ensures c.requires.base c.new-buffered.ensures.taken c.new-buffered.ensures.failed f.out;
    }
