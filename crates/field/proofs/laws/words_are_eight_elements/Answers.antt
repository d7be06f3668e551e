use Rattle.field.proofs.Eight.{eight_elements}
use Rattle.field.proofs.laws.words_are_eight_elements.Goals as goal

pub returns : goal.returns
returns c = eight_elements
