-- `record_at` meets its contract: the category, and then the check of the record, say which case of the rule holds. Assumes nothing.
use Prim.Native.Nat.{◌-◌}
use mathlib.Core.Path.{◌≡◌, sym, ap, ◌∙◌}
use mathlib.Core.Option.{some}
use native.Mathlib.Omega.{arith}
use lib.ListN.{length}
use Rattle.rules.specs.Block.{category_of}
use Rattle.rules.specs.Catalogue.{categories}
use Rattle.rules.specs.Told.{number_of, refusal_of}
use Rattle.rules.proofs.AnswerLaws.{Octets}
use Rattle.rules.proofs.ToldLaws.{refused_as}
use Rattle.tables.proofs.ProfileLaws.{category_at_lem, category_other}
use Rattle.sets.specs.Sets.{category_at}
use Rattle.blocks.proofs.LoopLaws.{octets_each}
use Rattle.blocks.proofs.InsideLaws.{record_inside}
use Rattle.blocks.proofs.RecordLaws.{Refusal, MapTaken, map_taken, map_refused}
use Rattle.walking.specs.Walk.{part}
use Rattle.walking.proofs.StepLaws.{octets_part, length_part, record_alien, record_stop, passed_is}
use Rattle.walking.proofs.record_at.Goals as goal
use Rattle.walking.proofs.record_at.Goals.{After-check_record, In-Ok, In-Err}

clean : (c : After-check_record) → Octets (part c.args.recording.now c.args.at.place c.args.at.end)
clean c = octets_part c.args.recording.now c.args.at.place c.args.at.end (octets_each c.args.recording.now c.type_inv.recording)

long : (c : After-check_record) → length (part c.args.recording.now c.args.at.place c.args.at.end) ≡ c.args.at.end - c.args.at.place
long c = length_part c.args.recording.now c.args.at.place c.args.at.end c.requires.high

named : (c : After-check_record) → category_of c.args.at.category categories ≡ some (category_at c.profile_of-profile.result)
named c = category_at_lem _ _ c.profile_of-profile.ensures c.if-profile-ge-PROFILES.false

-- the record, where it is whole
accepted : (c : In-Ok) → Octets (part c.args.recording.now c.args.at.place c.args.at.end)
    → MapTaken c.profile_of-profile.result (c.args.at.place - c.args.at.block) (part c.args.recording.now c.args.at.place c.args.at.end) c.in-Ok.map
accepted c o = map_taken _ _ (part c.args.recording.now c.args.at.place c.args.at.end) _ o c.in-Ok.ensures

-- and where it is not
barred : (c : In-Err) → Refusal (category_at c.profile_of-profile.result) (c.args.at.place - c.args.at.block) (part c.args.recording.now c.args.at.place c.args.at.end) (number_of c.in-Err.refusal.fault) c.in-Err.refusal.place
barred c = map_refused _ _ (part c.args.recording.now c.args.at.place c.args.at.end) _ _ c.in-Err.ensures

pub returns-then-profile-ge-PROFILES : goal.returns-then-profile-ge-PROFILES
returns-then-profile-ge-PROFILES c =
    refused_as _ _ _ c.at.ensures.is c.at.ensures.place
    ∙ sym (record_alien c.args.recording.now c.args.at (category_other _ _ c.profile_of-profile.ensures c.if-profile-ge-PROFILES.true))

pub later-requires : goal.later-requires
later-requires c =
    let x = goal.at.later-requires c in
    omega (arith, (barred x.In-Err).place_is, record_inside _ _ (clean x.After-check_record) _ _ (barred x.In-Err).reads, long x.After-check_record, c.requires.low, c.requires.before, c.requires.high)

pub returns-in-Err : goal.returns-in-Err
returns-in-Err c =
    let x = goal.at.returns-in-Err c in
    ap refusal_of c.later.ensures
    ∙ sym (record_stop c.args.recording.now c.args.at (category_at c.profile_of-profile.result) _ _ (named x.After-check_record) c.requires.low (barred x.In-Err))

pub overflow_sub-result : goal.overflow_sub-result
overflow_sub-result c =
    let x = goal.at.overflow_sub-result c in
    omega (arith, (accepted x.In-Ok (clean x.After-check_record)).accepted.low)

pub overflow_add-result : goal.overflow_add-result
overflow_add-result c =
    let x = goal.at.overflow_add-result c in
    omega (arith, (accepted x.In-Ok (clean x.After-check_record)).accepted.high, long x.After-check_record, c.requires.low, c.requires.before, c.requires.high)

pub returns : goal.returns
returns c =
    let x = goal.at.returns c in
    let t : MapTaken c.profile_of-profile.result (c.args.at.place - c.args.at.block) (part c.args.recording.now c.args.at.place c.args.at.end) c.in-Ok.map = accepted x.In-Ok (clean x.After-check_record) in
    passed_is c.args.recording.now c.args.at (category_at c.profile_of-profile.result) _ c.in-Ok.map (named x.After-check_record) t.accepted t.map_is
