use Rattle.cut_word.proofs.WordParts.{first_word-fields}
use Rattle.cut_word.proofs.merging.word.Goals as goal

pub returns : goal.returns
returns c = first_word-fields c.args.one c.args.two c.args.three c.from.result c.from-2.result c.requires.one.0 c.requires.three.1 c.from.ensures c.from-2.ensures
