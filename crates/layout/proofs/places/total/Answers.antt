use Rattle.model.specs.Sizes.{total}
use Rattle.layout.proofs.places.total.Goals as goal

pub returns : goal.returns
unfolding total
returns c = c.page_base.ensures
