use Rattle.netlist_text.proofs.LineFeeds.{lines_end_with_line_feeds}
use Rattle.netlist_text.proofs.laws.lines_end_with_line_feeds.Goals as goal

pub returns : goal.returns
returns c = lines_end_with_line_feeds
