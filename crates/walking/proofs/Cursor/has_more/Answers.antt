-- `Cursor::has_more` meets its contract: the tests in the rule's order. Assumes nothing.
use Rattle.walking.proofs.StepLaws.{more_low, more_past, more_high, more_long, more_on}
use Rattle.walking.proofs.Cursor.has_more.Goals as goal

pub returns-then-self : goal.returns-then-self
returns-then-self c = more_low _ _ c.if-self.true

pub returns-then-self-2 : goal.returns-then-self-2
returns-then-self-2 c = more_past _ _ c.if-self.false c.if-self-2.true

pub returns-then-len-self : goal.returns-then-len-self
returns-then-len-self c = more_high _ _ c.if-self.false c.if-self-2.false c.if-len-self.true

pub returns-then-self-ge65536 : goal.returns-then-self-ge65536
returns-then-self-ge65536 c = more_long _ _ c.if-self.false c.if-self-2.false c.if-len-self.false c.if-self-ge65536.true

pub returns : goal.returns
returns c = more_on _ _ c.if-self.false c.if-self-2.false c.if-len-self.false c.if-self-ge65536.false
