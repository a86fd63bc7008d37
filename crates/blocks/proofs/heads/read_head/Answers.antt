-- `heads::read_head` meets its contract: at each `return` the tests that led there say which case of the head's rule holds. Assumes nothing.
use mathlib.Core.Path.{sym}
use Rattle.tables.proofs.ProfileLaws.{category_at_lem, category_other}
use Rattle.blocks.proofs.HeadLaws.{head_none, head_alien, head_less, head_good}
use Rattle.blocks.proofs.heads.read_head.Goals as goal

pub returns-then-part-lt-HEAD : goal.returns-then-part-lt-HEAD
returns-then-part-lt-HEAD c = sym (head_none _ c.if-part-lt-HEAD.true)

pub returns-then-profile-ge-PROFILES : goal.returns-then-profile-ge-PROFILES
returns-then-profile-ge-PROFILES c = sym (head_alien _ c.if-part-lt-HEAD.false (category_other _ _ c.profile_of-profile.ensures c.if-profile-ge-PROFILES.true))

pub returns-then-len-lt-HEAD : goal.returns-then-len-lt-HEAD
returns-then-len-lt-HEAD c = sym (head_less _ c.if-part-lt-HEAD.false _ _
    (category_at_lem _ _ c.profile_of-profile.ensures c.if-profile-ge-PROFILES.false)
    c.from_be_bytes-len.ensures c.if-len-lt-HEAD.true)

pub returns : goal.returns
returns c = sym (head_good _ c.if-part-lt-HEAD.false _ _
    (category_at_lem _ _ c.profile_of-profile.ensures c.if-profile-ge-PROFILES.false)
    c.from_be_bytes-len.ensures c.if-len-lt-HEAD.false)
