-- `Page::put` meets its contract: the test says whether the page has the place. Assumes nothing.
use Rattle.text.proofs.PageLaws.{put_room, put_full}
use Rattle.text.proofs.page.Page.put.Goals as goal

pub returns-then-self-clause-text : goal.returns-then-self-clause-text
returns-then-self-clause-text c = put_room _ _ _ c.if-self.true

pub returns-else-self-clause-text : goal.returns-else-self-clause-text
returns-else-self-clause-text c = put_full _ _ _ c.if-self.false
