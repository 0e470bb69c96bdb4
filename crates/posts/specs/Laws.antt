-- What each call of a post may do to its meaning: which list changes, and how the dues go on.
use Rattle.std.specs.Prelude.{◌≡◌, ℕ, ◌-◌, ◌<◌, ◌≤◌, ◌≢◌, [], ◌∷◌, ◌++◌, length, Some, None, Option}
use Rattle.posts.specs.Posting.{Posting, Busy, Ready, Lawful}
use Rattle.wires.specs.declared.message.Message.{Message}

-- channel c is as it was, with a before and b after
pub record ChannelKept (a : Posting) (c : ℕ) (b : Posting) : Type 0 where
  pub same_list : b.waiting c ≡ a.waiting c
  pub same_due : Busy a c → b.due c ≡ a.due c

-- What every call keeps.
pub record SamePost (a b : Posting) : Type 0 where
  pub same_channels : b.channels ≡ a.channels
  pub same_lag : b.lag ≡ a.lag

abbrev pub OthersKept : Posting → ℕ → Posting → Type 0
OthersKept a c b = (k : ℕ) → k < a.channels → k ≢ c → ChannelKept a k b

-- `put`: the message is last in channel c.
pub record LawfulPut (a : Posting) (c : ℕ) (m : Message) (b : Posting) : Type 0 where
  pub same_post : SamePost a b
  pub joins_the_end : b.waiting c ≡ a.waiting c ++ m ∷ []
  pub due_stays : Busy a c → b.due c ≡ a.due c
  pub others : OthersKept a c b

-- `take` that answers a message: it is the oldest of channel c and could be taken, and it waits no more.
pub record LawfulTake (a : Posting) (c : ℕ) (m : Message) (b : Posting) : Type 0 where
  pub same_post : SamePost a b
  pub could_be_taken : a.due c ≡ 0
  pub oldest_goes : a.waiting c ≡ m ∷ b.waiting c
  pub others : OthersKept a c b

-- `take` that answers "not yet": there was nothing that could be taken, and nothing changes.
pub record LawfulNotYet (a : Posting) (c : ℕ) (b : Posting) : Type 0 where
  pub same_post : SamePost a b
  pub not_ready : Ready a c → ⊥
  pub all_kept : (k : ℕ) → k < a.channels → ChannelKept a k b

abbrev pub LawfulTakeAnswer : Posting → ℕ → Option Message → Posting → Type 0
LawfulTakeAnswer a c (Some m) b = LawfulTake a c m b
LawfulTakeAnswer a c None b = LawfulNotYet a c b

-- `tick`: every due above 0 falls by at least 1, and one that is 0 stays so.
pub record LawfulTick (a b : Posting) : Type 0 where
  pub same_post : SamePost a b
  pub same_lists : (c : ℕ) → c < a.channels → b.waiting c ≡ a.waiting c
  pub dues_fall : (c : ℕ) → Busy a c → b.due c ≤ a.due c - 1

-- A kind of post keeps the meaning: each one that exists is lawful, and so is each change that its calls make.
pub record PostLaws {S : Type 0} (means : S → Posting) (puts : S → ℕ → Message → S → Type 0) (takes : S → ℕ → Option Message → S → Type 0) (ticks : S → S → Type 0) : Type 0 where
  pub always_lawful : (s : S) → Lawful (means s)
  pub put_is_lawful : (s : S) (c : ℕ) (m : Message) (t : S) → c < (means s).channels → length ((means s).waiting c) < 2 → puts s c m t → LawfulPut (means s) c m (means t)
  pub take_is_lawful : (s : S) (c : ℕ) (came : Option Message) (t : S) → c < (means s).channels → takes s c came t → LawfulTakeAnswer (means s) c came (means t)
  pub tick_is_lawful : (s t : S) → ticks s t → LawfulTick (means s) (means t)
