-- Lists of calls on any post: order and time, from the laws of its meaning alone.
use Rattle.std.proofs.Common.{◌≡◌, ℕ, ◌-◌, ◌<◌, ◌≤◌, Bool, true, false, cond, eqb, ◌≢◌, List, [], ◌∷◌, ◌++◌, Some, None, Ok, Err, Option, sym, refl, ap, ◌∙◌, subst, append_assoc, append-nil, arith, eqb-true}
use borrow.Author.Tests.{eqb-false}
use mathlib.Core.List.{append-eq-nil_iff}
use Rattle.posts.specs.Exchange.{Step, Happened, put_by, put_into, taken_by, taken_from, ticks_by, ticks_in, InOrder, InTime, NeverLate}
use Rattle.posts.specs.Laws.{PostLaws, ChannelKept, SamePost, LawfulPut, LawfulTake, LawfulTick}
use Rattle.posts.specs.Posting.{Posting, Busy}
use Rattle.posts.specs.declared.event.PostEvent.{PostEvent}
use Rattle.posts.specs.declared.event.PostEvent.TheVariants.{Put, Take, Tick}
use Rattle.wires.specs.declared.message.Message.{Message}

-- What an event does to channel c, given what it puts there, what it takes from there, and how many ticks it has.
pub record Moves (put taken : List Message) (ticks c : ℕ) (a b : Posting) : Type 0 where
  pub in_order : a.waiting c ++ put ≡ taken ++ b.waiting c
  pub due_falls : Busy a c → taken ≡ [] → b.due c ≤ a.due c - ticks

kept_moves : (c : ℕ) (a b : Posting) → ChannelKept a c b → Moves [] [] 0 c a b
kept_moves c a b kept = record {
  in_order = append-nil (a.waiting c) ∙ sym kept.same_list;
  due_falls = λ busy none. omega (arith, kept.same_due busy);
}

put_moves : (k : ℕ) (m : Message) (c : ℕ) (a b : Posting) (here : Bool) → eqb k c ≡ here → c < a.channels → LawfulPut a k m b → Moves (cond here (m ∷ []) []) [] 0 c a b
put_moves k m c a b true e h law =
    let same = eqb-true k c e in
    record {
      in_order = subst (λ x. a.waiting x ++ m ∷ [] ≡ b.waiting x) same (sym law.joins_the_end);
      due_falls = λ busy none. subst (λ x. Busy a x → b.due x ≤ a.due x - 0) same (λ there. omega (arith, law.due_stays there)) busy;
    }
put_moves k m c a b false e h law = kept_moves c a b (law.others c h (λ same. eqb-false k c e (sym same)))

take_moves : (k : ℕ) (m : Message) (c : ℕ) (a b : Posting) (here : Bool) → eqb k c ≡ here → c < a.channels → LawfulTake a k m b → Moves [] (cond here (m ∷ []) []) 0 c a b
take_moves k m c a b true e h law = record {
  in_order = subst (λ x. a.waiting x ++ [] ≡ m ∷ b.waiting x) (eqb-true k c e) (append-nil (a.waiting k) ∙ law.oldest_goes);
  due_falls = λ busy none. cc;
}
take_moves k m c a b false e h law = kept_moves c a b (law.others c h (λ same. eqb-false k c e (sym same)))

tick_moves : (c : ℕ) (a b : Posting) → c < a.channels → LawfulTick a b → Moves [] [] 1 c a b
tick_moves c a b h law = record {
  in_order = append-nil (a.waiting c) ∙ sym (law.same_lists c h);
  due_falls = λ busy none. law.dues_fall c busy;
}

-- Order over one event and then the others.
regroup : (before put taken between puts takens after : List Message) → before ++ put ≡ taken ++ between → between ++ puts ≡ takens ++ after → before ++ (put ++ puts) ≡ (taken ++ takens) ++ after
regroup before put taken between puts takens after first later = cc (append_assoc before put puts, append_assoc taken between puts, append_assoc taken takens after)

still_waiting : (before put taken after : List Message) → before ≢ [] → taken ≡ [] → before ++ put ≡ taken ++ after → after ≢ []
still_waiting before put taken after some none e gone = some ((append-eq-nil_iff {p = before} {q = put}).0 (e ∙ ap (λ xs. xs ++ after) none ∙ gone)).0

empty_unless : (xs : List Message) → (xs ≢ [] → ⊥) → xs ≡ []
empty_unless [] no_other = refl
empty_unless (x ∷ xs) no_other = absurd (no_other (λ e. cc))

module _ {S : Type 0} {means : S → Posting} {puts : S → ℕ → Message → S → Type 0} {takes : S → ℕ → Option Message → S → Type 0} {ticks : S → S → Type 0} (laws : PostLaws means puts takes ticks) where
  abbrev Does : PostEvent → S → S → Type 0
  Does = Step means puts takes ticks

  abbrev Do : List PostEvent → S → S → Type 0
  Do = Happened means puts takes ticks

  -- A refusal leaves the post as it was.
  unchanged_channel : (c : ℕ) (s t : S) → t ≡ s → ChannelKept (means s) c (means t)
  unchanged_channel c s t same = record { same_list = ap (λ x. (means x).waiting c) same; same_due = λ busy. ap (λ x. (means x).due c) same }

  unchanged_post : (s t : S) → t ≡ s → SamePost (means s) (means t)
  unchanged_post s t same = record { same_channels = ap (λ x. (means x).channels) same; same_lag = ap (λ x. (means x).lag) same }

  -- one event more
  pub happened_more : (es : List PostEvent) (e : PostEvent) (s u t : S) → Do es s u → Does e u t → Do (es ++ e ∷ []) s t
  happened_more [] e s u t before did = (t, subst (λ x. Does e x t) before did, refl)
  happened_more (x ∷ es) e s u t (between, first, rest) did = (between, first, happened_more es e between u t rest did)

  -- Each event keeps the count of channels and the lag.
  pub keeps_the_post : (e : PostEvent) (s t : S) → Does e s t → SamePost (means s) (means t)
  keeps_the_post (Put k m (Ok _)) s t (there, room, did) = (laws.put_is_lawful s k m t there room did).same_post
  keeps_the_post (Put k m (Err _)) s t (why, same) = unchanged_post s t same
  keeps_the_post (Take k (Ok (Some m))) s t (there, did) = (laws.take_is_lawful s k (Some m) t there did).same_post
  keeps_the_post (Take k (Ok None)) s t (there, did) = (laws.take_is_lawful s k None t there did).same_post
  keeps_the_post (Take k (Err _)) s t (why, same) = unchanged_post s t same
  keeps_the_post Tick s t did = (laws.tick_is_lawful s t did).same_post

  -- What each event does to one channel: to its list, and, where none is taken from it, to its due.
  pub moves : (e : PostEvent) (c : ℕ) (s t : S) → c < (means s).channels → Does e s t → Moves (put_by c e) (taken_by c e) (ticks_by e) c (means s) (means t)
  moves (Put k m (Ok _)) c s t h (there, room, did) = put_moves k m c (means s) (means t) (eqb k c) refl h (laws.put_is_lawful s k m t there room did)
  moves (Put k m (Err _)) c s t h (why, same) = kept_moves c (means s) (means t) (unchanged_channel c s t same)
  moves (Take k (Ok (Some m))) c s t h (there, did) = take_moves k m c (means s) (means t) (eqb k c) refl h (laws.take_is_lawful s k (Some m) t there did)
  moves (Take k (Ok None)) c s t h (there, did) = kept_moves c (means s) (means t) ((laws.take_is_lawful s k None t there did).all_kept c h)
  moves (Take k (Err _)) c s t h (why, same) = kept_moves c (means s) (means t) (unchanged_channel c s t same)
  moves Tick c s t h did = tick_moves c (means s) (means t) h (laws.tick_is_lawful s t did)

  pub in_order : (es : List PostEvent) (s t : S) → Do es s t → InOrder (means s) es (means t)
  in_order [] s t done c h = append-nil ((means s).waiting c) ∙ ap (λ x. (means x).waiting c) (sym done)
  in_order (e ∷ es) s t (u, did, rest) c h =
      let first = (moves e c s u h did).in_order in
      let later = in_order es u t rest c (omega (arith, (keeps_the_post e s u did).same_channels)) in
      regroup ((means s).waiting c) (put_by c e) (taken_by c e) ((means u).waiting c) (put_into c es) (taken_from c es) ((means t).waiting c) first later

  -- A message that waits goes on waiting while none is taken, and its due falls with each tick.
  due_falls : (es : List PostEvent) (s t : S) (c : ℕ) → Do es s t → Busy (means s) c → taken_from c es ≡ [] → Busy (means t) c × ((means t).due c ≤ (means s).due c - ticks_in es)
  due_falls [] s t c done busy none =
      (subst (λ x. Busy (means x) c) (sym done) busy, omega (arith, ap (λ x. (means x).due c) done))
  due_falls (e ∷ es) s t c (u, did, rest) busy none =
      let first = moves e c s u busy.0 did in
      let (untouched, later_too) = (append-eq-nil_iff {p = taken_by c e} {q = taken_from c es}).0 none in
      let still = still_waiting ((means s).waiting c) (put_by c e) (taken_by c e) ((means u).waiting c) busy.1 untouched first.in_order in
      let next : c < (means u).channels = omega (arith, busy.0, (keeps_the_post e s u did).same_channels) in
      let later = due_falls es u t c rest (next, still) later_too in
      (later.0, omega (arith, later.1, first.due_falls busy untouched))

  pub in_time : (es : List PostEvent) (s t : S) → Do es s t → InTime (means s) es (means t)
  in_time es s t did c busy none enough =
      let later = due_falls es s t c did busy none in
      (later.0, omega (arith, later.1, (laws.always_lawful s).due_within_lag c busy))

  -- A list of events in two parts leads through the post between them.
  happened_apart : (xs ys : List PostEvent) (s t : S) → Do (xs ++ ys) s t → (u : S) × Do xs s u × Do ys u t
  happened_apart [] ys s t did = (s, refl, did)
  happened_apart (x ∷ xs) ys s t (between, first, rest) =
      let apart = happened_apart xs ys between t rest in
      (apart.0, (between, first, apart.1), apart.2)

  keeps_throughout : (es : List PostEvent) (s t : S) → Do es s t → SamePost (means s) (means t)
  keeps_throughout [] s t done = unchanged_post s t done
  keeps_throughout (e ∷ es) s t (u, did, rest) =
      let first = keeps_the_post e s u did in
      let later = keeps_throughout es u t rest in
      record { same_channels = later.same_channels ∙ first.same_channels; same_lag = later.same_lag ∙ first.same_lag }

  -- Nothing waits where a take answers "not yet" after enough ticks.
  nothing_waited : (stretch : List PostEvent) (c : ℕ) (after : List PostEvent) (u t : S) → c < (means u).channels → Do (stretch ++ Take c (Ok None) ∷ after) u t
      → taken_from c stretch ≡ [] → (means u).lag ≤ ticks_in stretch → (means u).waiting c ≢ [] → ⊥
  nothing_waited stretch c after u t inside did none enough waits =
      let apart = happened_apart stretch (Take c (Ok None) ∷ after) u t did in
      let take = apart.2.1 in
      (laws.take_is_lawful apart.0 c None apart.2.0 take.0 take.1).not_ready (in_time stretch u apart.0 apart.1 c (inside, waits) none enough)

  pub never_late : (es : List PostEvent) (s t : S) → Do es s t → NeverLate (means s) es
  never_late es s t did c before stretch after inside parts none enough =
      let apart = happened_apart before (stretch ++ Take c (Ok None) ∷ after) s t (subst (λ xs. Do xs s t) parts did) in
      let u = apart.0 in
      let same = keeps_throughout before s u apart.1 in
      let empty = empty_unless ((means u).waiting c)
      (nothing_waited stretch c after u t (omega (arith, inside, same.same_channels)) apart.2 none (omega (arith, enough, same.same_lag))) in
      in_order before s u apart.1 c inside ∙ ap (λ xs. taken_from c before ++ xs) empty ∙ append-nil (taken_from c before)
