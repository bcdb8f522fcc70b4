use Rattle.mg_text.proofs.TallyLaws.{put_counted}
use Rattle.mg_text.proofs.stream_counts.StreamCounts.put.Goals as goal

pub returns : goal.returns
returns c = put_counted c.count_times-put.result c.is_ok.result c.args.piece.now c.args.times c.self.inside.vocab c.args.self.now c.count_times-put.new.self c.is_ok.ensures.value c.self.view_is
    (rw c.alone.ensures at c.count_times-put.ensures.counted)
