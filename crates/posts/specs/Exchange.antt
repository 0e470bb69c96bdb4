-- What a user of any post can rely on, whatever calls it makes: what is taken from a channel is what was put into it,
-- in order, nothing lost and nothing twice; and the oldest message can be taken once as many ticks as the lag have passed.
use Rattle.std.specs.Prelude.{◌≡◌, ℕ, ◌+◌, ◌<◌, ◌≤◌, cond, List, [], ◌∷◌, ◌++◌, Some, None, Ok, Err, Option, ◌==◌}
use Rattle.posts.specs.Answers.{PutAnswer, TakeAnswer}
use Rattle.posts.specs.Posting.{Posting, Busy, Ready}
use Rattle.posts.specs.declared.event.PostCall.{PostCall}
use Rattle.posts.specs.declared.event.PostCall.TheVariants.{Put as PutCall, Take as TakeCall, Tick as TickCall}
use Rattle.posts.specs.declared.event.PostEvent.{PostEvent}
use Rattle.posts.specs.declared.event.PostEvent.TheVariants.{Put, Take, Tick}
use Rattle.wires.specs.declared.message.Message.{Message}

-- the call of an event
abbrev pub call_of : PostEvent → PostCall
call_of (Put c m answer) = PutCall c m
call_of (Take c answer) = TakeCall c
call_of Tick = TickCall

-- What happens, exactly: each event leads from the post before it to the post after it.
module _ {S : Type 0} (means : S → Posting) (puts : S → ℕ → Message → S → Type 0) (takes : S → ℕ → Option Message → S → Type 0) (ticks : S → S → Type 0) where
  abbrev pub Step : PostEvent → S → S → Type 0
  Step (Put c m answer) s t = PutAnswer (means s) c (puts s c m t) (t ≡ s) answer
  Step (Take c answer) s t = TakeAnswer (means s) c (λ came. takes s c came t) (t ≡ s) answer
  Step Tick s t = ticks s t

  abbrev pub Happened : List PostEvent → S → S → Type 0
  Happened [] s t = t ≡ s
  Happened (e ∷ es) s t = (between : S) × Step e s between × Happened es between t

-- the messages that were put into channel c, in order
abbrev pub put_by : ℕ → PostEvent → List Message
put_by c (Put k m (Ok _)) = cond (k == c) (m ∷ []) []
put_by c (Put k m (Err _)) = []
put_by c (Take k answer) = []
put_by c Tick = []

abbrev pub put_into : ℕ → List PostEvent → List Message
put_into c [] = []
put_into c (e ∷ es) = put_by c e ++ put_into c es

-- the messages that were taken from channel c, in order
abbrev pub taken_by : ℕ → PostEvent → List Message
taken_by c (Put k m answer) = []
taken_by c (Take k (Ok (Some m))) = cond (k == c) (m ∷ []) []
taken_by c (Take k (Ok None)) = []
taken_by c (Take k (Err _)) = []
taken_by c Tick = []

abbrev pub taken_from : ℕ → List PostEvent → List Message
taken_from c [] = []
taken_from c (e ∷ es) = taken_by c e ++ taken_from c es

-- how many ticks there were
abbrev pub ticks_by : PostEvent → ℕ
ticks_by (Put k m answer) = 0
ticks_by (Take k answer) = 0
ticks_by Tick = 1

abbrev pub ticks_in : List PostEvent → ℕ
ticks_in [] = 0
ticks_in (e ∷ es) = ticks_by e + ticks_in es

-- What waited at first and what was put is what was taken and what still waits, in the same order.
abbrev pub InOrder : Posting → List PostEvent → Posting → Type 0
InOrder a es b = (c : ℕ) → c < a.channels → a.waiting c ++ put_into c es ≡ taken_from c es ++ b.waiting c

-- Where a message waits at first and none is taken, it can be taken after as many ticks as the lag.
abbrev pub InTime : Posting → List PostEvent → Posting → Type 0
InTime a es b = (c : ℕ) → Busy a c → taken_from c es ≡ [] → a.lag ≤ ticks_in es → Ready b c

-- The same at any time, by what the user sees: where a take answers "not yet" after a stretch of as many ticks as the lag, in which none was taken,
-- nothing was waiting before that stretch: all that had waited at first or been put by then had been taken.
abbrev pub NeverLate : Posting → List PostEvent → Type 0
NeverLate a es = (c : ℕ) (before stretch after : List PostEvent)
    → c < a.channels → es ≡ before ++ (stretch ++ Take c (Ok None) ∷ after) → taken_from c stretch ≡ [] → a.lag ≤ ticks_in stretch
    → a.waiting c ++ put_into c before ≡ taken_from c before
