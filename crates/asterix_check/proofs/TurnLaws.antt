-- What holds of a turn: what came is in the buffer; which turn it is, by what came. Assumes nothing.
use Prim.Native.Nat.{ℕ, ◌≤◌}
use mathlib.Core.Path.{◌≡◌, refl, sym, ap, ap₂, ◌∙◌, subst}
use mathlib.Core.Bool.{Bool, true, false}
use mathlib.Core.List.{List}
use lib.ListN.{take}
use Rattle.std.proofs.Common.{Result, Ok, Err}
use Rattle.std.specs.Result.{is_err}
use Rattle.rules.specs.Answer.{Answer, ok, refused, ◌>>=◌}
use Rattle.rules.specs.Entry.{Counts}
use Rattle.rules.proofs.AnswerLaws.{if_true, if_false}
use Rattle.recordings.specs.Feed.{SoFar, fed, finished}
use Rattle.recordings.specs.Answers.{whole_of}
use Rattle.recordings.specs.declared.Counts as code
use Rattle.recordings.specs.declared.Refused.{Refused}
use Rattle.input.specs.declared.Filled.{Filled}
use Rattle.input.specs.declared.Filled.TheVariants.{More, End}
use Rattle.asterix_check.specs.Whole.{whole_in}
use Rattle.asterix_check.specs.Turn.{is_refused, on, verdict, fed_whole, turned, Came}

-- ---- what came

pub end_fits : (f : Filled) (n size : ℕ) → Came f size → f ≡ End n → n ≤ size
end_fits f n size h e = subst (λ z. Came z size) e h

pub more_fits : (f : Filled) (n size : ℕ) → Came f size → f ≡ More n → n ≤ size
more_fits f n size h e = subst (λ z. Came z size) e h

-- ---- which turn it is

pub turn_end : (s s₁ : Answer SoFar) (f : Filled) (bs : List ℕ) (n : ℕ) (v : Answer Counts) → f ≡ End n → s₁ ≡ fed s (take n bs) → v ≡ finished s₁
    → verdict v ≡ turned s f bs
unfolding turned
turn_end s s₁ f bs n v e g h = ap verdict (h ∙ ap finished g) ∙ sym (ap (λ z. turned s z bs) e)

module _ (s s₁ : Answer SoFar) (f : Filled) (bs : List ℕ) (n k : ℕ) (e : f ≡ More n) (w : k ≡ whole_in (take n bs)) (g : s₁ ≡ fed s (take k bs)) where
  more : fed_whole s₁ k n ≡ turned s f bs
  unfolding turned
  more = ap₂ (λ x m. fed_whole x m n) (g ∙ ap (λ m. fed s (take m bs)) w) w ∙ sym (ap (λ z. turned s z bs) e)

  pub turn_stop : (v : Answer Counts) → is_refused s₁ ≡ true → v ≡ finished s₁ → verdict v ≡ turned s f bs
  unfolding fed_whole
  turn_stop v t h = ap verdict h ∙ sym (if_true (on s₁ k n) t refl) ∙ more

  pub turn_on : is_refused s₁ ≡ false → on s₁ k n ≡ turned s f bs
  unfolding fed_whole
  turn_on t = sym (if_false (verdict (finished s₁)) t refl) ∙ more

-- whether the first fault has been found is seen from what the whole would be
finish_stops : (s : Answer SoFar) → is_refused (finished s) ≡ is_refused s
unfolding finished ◌>>=◌
finish_stops (ok a) = refl
finish_stops (refused n p) = refl

err_refused : (r : Result code.Counts Refused) → is_err r ≡ is_refused (whole_of r)
err_refused (Ok a) = refl
err_refused (Err e) = refl

pub stopped : (r : Result code.Counts Refused) (s : Answer SoFar) (b : Bool) → whole_of r ≡ finished s → b ≡ is_err r → is_refused s ≡ b
stopped r s b h e = sym (e ∙ err_refused r ∙ ap is_refused h ∙ finish_stops s)
