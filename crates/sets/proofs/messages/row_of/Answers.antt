-- `messages::row_of` meets its contract: the number of each arm finds the row that stands there, and any other number is none of them. Every known row
-- has the same proof, a line to an arm, computed from the tables of the rules. Assumes nothing.
use Rattle.rules.specs.Answer.{◌>>=◌, when◌then◌else◌}
use Rattle.rules.specs.Presence.{number}
use Rattle.rules.specs.Record.{message_of}
use Rattle.rules.specs.Catalogue.{categories}
use Rattle.sets.specs.Sets.{category_at, bits_of}
use Rattle.sets.specs.Steps.{row_at}
use Rattle.sets.proofs.JudgeLaws.{row_key, row_unknown, row_none_lem}
use Rattle.sets.proofs.messages.row_of.Goals as goal

pub returns-then-profile-ge-PROFILES : goal.returns-then-profile-ge-PROFILES
returns-then-profile-ge-PROFILES c = row_none_lem _ _ c.if-profile-ge-PROFILES.true

-- ---- made by model/make.py: an answer to an arm
pub returns-in-0 : goal.returns-in-0
unfolding row_at message_of when◌then◌else◌ ◌>>=◌ category_at categories bits_of number
returns-in-0 c = row_key _ _ c.ranges.kind.fits c.in-0.is

pub returns-in-10 : goal.returns-in-10
unfolding row_at message_of when◌then◌else◌ ◌>>=◌ category_at categories bits_of number
returns-in-10 c = row_key _ _ c.ranges.kind.fits c.in-10.is

pub returns-in-20 : goal.returns-in-20
unfolding row_at message_of when◌then◌else◌ ◌>>=◌ category_at categories bits_of number
returns-in-20 c = row_key _ _ c.ranges.kind.fits c.in-20.is

pub returns-in-21 : goal.returns-in-21
unfolding row_at message_of when◌then◌else◌ ◌>>=◌ category_at categories bits_of number
returns-in-21 c = row_key _ _ c.ranges.kind.fits c.in-21.is

pub returns-in-22 : goal.returns-in-22
unfolding row_at message_of when◌then◌else◌ ◌>>=◌ category_at categories bits_of number
returns-in-22 c = row_key _ _ c.ranges.kind.fits c.in-22.is

pub returns-in-23 : goal.returns-in-23
unfolding row_at message_of when◌then◌else◌ ◌>>=◌ category_at categories bits_of number
returns-in-23 c = row_key _ _ c.ranges.kind.fits c.in-23.is

pub returns-in-30 : goal.returns-in-30
unfolding row_at message_of when◌then◌else◌ ◌>>=◌ category_at categories bits_of number
returns-in-30 c = row_key _ _ c.ranges.kind.fits c.in-30.is

pub returns-in-31 : goal.returns-in-31
unfolding row_at message_of when◌then◌else◌ ◌>>=◌ category_at categories bits_of number
returns-in-31 c = row_key _ _ c.ranges.kind.fits c.in-31.is

pub returns-in-32 : goal.returns-in-32
unfolding row_at message_of when◌then◌else◌ ◌>>=◌ category_at categories bits_of number
returns-in-32 c = row_key _ _ c.ranges.kind.fits c.in-32.is

pub returns-in-33 : goal.returns-in-33
unfolding row_at message_of when◌then◌else◌ ◌>>=◌ category_at categories bits_of number
returns-in-33 c = row_key _ _ c.ranges.kind.fits c.in-33.is

pub returns-in-110 : goal.returns-in-110
unfolding row_at message_of when◌then◌else◌ ◌>>=◌ category_at categories bits_of number
returns-in-110 c = row_key _ _ c.ranges.kind.fits c.in-110.is

pub returns-in-111 : goal.returns-in-111
unfolding row_at message_of when◌then◌else◌ ◌>>=◌ category_at categories bits_of number
returns-in-111 c = row_key _ _ c.ranges.kind.fits c.in-111.is

pub returns-in-256 : goal.returns-in-256
unfolding row_at message_of when◌then◌else◌ ◌>>=◌ category_at categories bits_of number
returns-in-256 c = row_key _ _ c.ranges.kind.fits c.in-256.is

pub returns-in-257 : goal.returns-in-257
unfolding row_at message_of when◌then◌else◌ ◌>>=◌ category_at categories bits_of number
returns-in-257 c = row_key _ _ c.ranges.kind.fits c.in-257.is

pub returns-in-258 : goal.returns-in-258
unfolding row_at message_of when◌then◌else◌ ◌>>=◌ category_at categories bits_of number
returns-in-258 c = row_key _ _ c.ranges.kind.fits c.in-258.is

pub returns-in-259 : goal.returns-in-259
unfolding row_at message_of when◌then◌else◌ ◌>>=◌ category_at categories bits_of number
returns-in-259 c = row_key _ _ c.ranges.kind.fits c.in-259.is

pub returns-in-260 : goal.returns-in-260
unfolding row_at message_of when◌then◌else◌ ◌>>=◌ category_at categories bits_of number
returns-in-260 c = row_key _ _ c.ranges.kind.fits c.in-260.is

pub returns-in-261 : goal.returns-in-261
unfolding row_at message_of when◌then◌else◌ ◌>>=◌ category_at categories bits_of number
returns-in-261 c = row_key _ _ c.ranges.kind.fits c.in-261.is

pub returns-in-272 : goal.returns-in-272
unfolding row_at message_of when◌then◌else◌ ◌>>=◌ category_at categories bits_of number
returns-in-272 c = row_key _ _ c.ranges.kind.fits c.in-272.is

pub returns-in-273 : goal.returns-in-273
unfolding row_at message_of when◌then◌else◌ ◌>>=◌ category_at categories bits_of number
returns-in-273 c = row_key _ _ c.ranges.kind.fits c.in-273.is

pub returns-in-274 : goal.returns-in-274
unfolding row_at message_of when◌then◌else◌ ◌>>=◌ category_at categories bits_of number
returns-in-274 c = row_key _ _ c.ranges.kind.fits c.in-274.is

pub returns-in-288 : goal.returns-in-288
unfolding row_at message_of when◌then◌else◌ ◌>>=◌ category_at categories bits_of number
returns-in-288 c = row_key _ _ c.ranges.kind.fits c.in-288.is

pub returns-in-289 : goal.returns-in-289
unfolding row_at message_of when◌then◌else◌ ◌>>=◌ category_at categories bits_of number
returns-in-289 c = row_key _ _ c.ranges.kind.fits c.in-289.is

pub returns-in-290 : goal.returns-in-290
unfolding row_at message_of when◌then◌else◌ ◌>>=◌ category_at categories bits_of number
returns-in-290 c = row_key _ _ c.ranges.kind.fits c.in-290.is

pub returns-in-291 : goal.returns-in-291
unfolding row_at message_of when◌then◌else◌ ◌>>=◌ category_at categories bits_of number
returns-in-291 c = row_key _ _ c.ranges.kind.fits c.in-291.is

pub returns-in-294 : goal.returns-in-294
unfolding row_at message_of when◌then◌else◌ ◌>>=◌ category_at categories bits_of number
returns-in-294 c = row_key _ _ c.ranges.kind.fits c.in-294.is

pub returns-in-295 : goal.returns-in-295
unfolding row_at message_of when◌then◌else◌ ◌>>=◌ category_at categories bits_of number
returns-in-295 c = row_key _ _ c.ranges.kind.fits c.in-295.is

pub returns-in-304 : goal.returns-in-304
unfolding row_at message_of when◌then◌else◌ ◌>>=◌ category_at categories bits_of number
returns-in-304 c = row_key _ _ c.ranges.kind.fits c.in-304.is

pub returns-in-305 : goal.returns-in-305
unfolding row_at message_of when◌then◌else◌ ◌>>=◌ category_at categories bits_of number
returns-in-305 c = row_key _ _ c.ranges.kind.fits c.in-305.is

pub returns-in-306 : goal.returns-in-306
unfolding row_at message_of when◌then◌else◌ ◌>>=◌ category_at categories bits_of number
returns-in-306 c = row_key _ _ c.ranges.kind.fits c.in-306.is

pub returns-in-308 : goal.returns-in-308
unfolding row_at message_of when◌then◌else◌ ◌>>=◌ category_at categories bits_of number
returns-in-308 c = row_key _ _ c.ranges.kind.fits c.in-308.is

pub returns-in-320 : goal.returns-in-320
unfolding row_at message_of when◌then◌else◌ ◌>>=◌ category_at categories bits_of number
returns-in-320 c = row_key _ _ c.ranges.kind.fits c.in-320.is

pub returns-in-321 : goal.returns-in-321
unfolding row_at message_of when◌then◌else◌ ◌>>=◌ category_at categories bits_of number
returns-in-321 c = row_key _ _ c.ranges.kind.fits c.in-321.is

pub returns-in-322 : goal.returns-in-322
unfolding row_at message_of when◌then◌else◌ ◌>>=◌ category_at categories bits_of number
returns-in-322 c = row_key _ _ c.ranges.kind.fits c.in-322.is

pub returns-in-323 : goal.returns-in-323
unfolding row_at message_of when◌then◌else◌ ◌>>=◌ category_at categories bits_of number
returns-in-323 c = row_key _ _ c.ranges.kind.fits c.in-323.is

pub returns-in-529 : goal.returns-in-529
unfolding row_at message_of when◌then◌else◌ ◌>>=◌ category_at categories bits_of number
returns-in-529 c = row_key _ _ c.ranges.kind.fits c.in-529.is

pub returns-in-530 : goal.returns-in-530
unfolding row_at message_of when◌then◌else◌ ◌>>=◌ category_at categories bits_of number
returns-in-530 c = row_key _ _ c.ranges.kind.fits c.in-530.is

pub returns-in-531 : goal.returns-in-531
unfolding row_at message_of when◌then◌else◌ ◌>>=◌ category_at categories bits_of number
returns-in-531 c = row_key _ _ c.ranges.kind.fits c.in-531.is

pub returns-in-532 : goal.returns-in-532
unfolding row_at message_of when◌then◌else◌ ◌>>=◌ category_at categories bits_of number
returns-in-532 c = row_key _ _ c.ranges.kind.fits c.in-532.is

pub returns-in-533 : goal.returns-in-533
unfolding row_at message_of when◌then◌else◌ ◌>>=◌ category_at categories bits_of number
returns-in-533 c = row_key _ _ c.ranges.kind.fits c.in-533.is

pub returns-in-534 : goal.returns-in-534
unfolding row_at message_of when◌then◌else◌ ◌>>=◌ category_at categories bits_of number
returns-in-534 c = row_key _ _ c.ranges.kind.fits c.in-534.is

pub returns-in-545 : goal.returns-in-545
unfolding row_at message_of when◌then◌else◌ ◌>>=◌ category_at categories bits_of number
returns-in-545 c = row_key _ _ c.ranges.kind.fits c.in-545.is

pub returns-in-546 : goal.returns-in-546
unfolding row_at message_of when◌then◌else◌ ◌>>=◌ category_at categories bits_of number
returns-in-546 c = row_key _ _ c.ranges.kind.fits c.in-546.is

pub returns-in-547 : goal.returns-in-547
unfolding row_at message_of when◌then◌else◌ ◌>>=◌ category_at categories bits_of number
returns-in-547 c = row_key _ _ c.ranges.kind.fits c.in-547.is

pub returns-in-548 : goal.returns-in-548
unfolding row_at message_of when◌then◌else◌ ◌>>=◌ category_at categories bits_of number
returns-in-548 c = row_key _ _ c.ranges.kind.fits c.in-548.is

pub returns-in-549 : goal.returns-in-549
unfolding row_at message_of when◌then◌else◌ ◌>>=◌ category_at categories bits_of number
returns-in-549 c = row_key _ _ c.ranges.kind.fits c.in-549.is

pub returns-in-550 : goal.returns-in-550
unfolding row_at message_of when◌then◌else◌ ◌>>=◌ category_at categories bits_of number
returns-in-550 c = row_key _ _ c.ranges.kind.fits c.in-550.is

pub returns-in-551 : goal.returns-in-551
unfolding row_at message_of when◌then◌else◌ ◌>>=◌ category_at categories bits_of number
returns-in-551 c = row_key _ _ c.ranges.kind.fits c.in-551.is

pub returns-in-552 : goal.returns-in-552
unfolding row_at message_of when◌then◌else◌ ◌>>=◌ category_at categories bits_of number
returns-in-552 c = row_key _ _ c.ranges.kind.fits c.in-552.is

pub returns-in-559 : goal.returns-in-559
unfolding row_at message_of when◌then◌else◌ ◌>>=◌ category_at categories bits_of number
returns-in-559 c = row_key _ _ c.ranges.kind.fits c.in-559.is

-- ---- end of what is made

pub returns-in_default : goal.returns-in_default
unfolding row_at message_of when◌then◌else◌ ◌>>=◌ category_at categories bits_of number
returns-in_default c = row_unknown _ _ c.in_default.in_default-own.rest
