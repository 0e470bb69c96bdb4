use Rattle.std.proofs.Common.{◌≡◌, ℕ, ◌<◌, List, [], length, slice_index_or, replicate, sym, ◌∙◌, arith, rules}
use Rattle.std.proofs.lemmas.List.{ext_get_or, get_or-replicate}
use Rattle.arrayvec.specs.ArrayVec.{ArrayVec}
use Rattle.wires.specs.declared.message.Message.{Message}
use Rattle.posts.proofs.queue_post.QueuePost.new.Goals as goal

abbrev empty : ArrayVec Message
empty = record { items = [] }

all_empty : (qs : List (ArrayVec Message)) → length qs ≡ 64 → ((i : ℕ) → i < 64 → slice_index_or qs i empty ≡ empty) → qs ≡ replicate 64 empty
all_empty qs long each = ext_get_or empty qs (replicate 64 empty) long (λ i h. each i (omega arith) ∙ sym (get_or-replicate 64 i empty empty (omega arith)))

pub invariant_of-result-clause-few : goal.invariant_of-result-clause-few
invariant_of-result-clause-few c = λ k d h. let made = (c.from_fn.ensures.items.at k d (omega (arith, c.from_fn.ensures.items.long))).2 in search rules

pub returns : goal.returns
returns c = all_empty c.from_fn.result c.from_fn.ensures.items.long (λ i h. let made = (c.from_fn.ensures.items.at i empty h).2 in search rules)
