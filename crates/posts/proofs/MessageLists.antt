-- Lists of at most three messages: what their steps do to the messages that they hold.
use Rattle.std.proofs.Common.{◌≡◌, ◌+◌, ◌<◌, ◌≤◌, [], ◌∷◌, ◌++◌, length, Some, None, refl, arith}
use Rattle.posts.specs.MessageLists.{items, oldest_of, rest_of, with_last}
use Rattle.posts.specs.declared.message_list.MessageList.{MessageList}
use Rattle.posts.specs.declared.message_list.MessageList.TheVariants.{Empty, One, Two, Three}
use Rattle.wires.specs.declared.message.Message.{Message}

pub last_is_behind : (l : MessageList) (m : Message) → length (items l) < 3 → items (with_last l m) ≡ items l ++ m ∷ []
last_is_behind Empty m h = refl
last_is_behind (One a) m h = refl
last_is_behind (Two a b) m h = refl
last_is_behind (Three a b c) m h = absurd (omega arith)

pub last_is_behind_the_rest : (l : MessageList) (m : Message) → 1 ≤ length (items l) → length (items l) < 3 → items (rest_of (with_last l m)) ≡ items (rest_of l) ++ m ∷ []
last_is_behind_the_rest Empty m some h = absurd (omega arith)
last_is_behind_the_rest (One a) m some h = refl
last_is_behind_the_rest (Two a b) m some h = refl
last_is_behind_the_rest (Three a b c) m some h = absurd (omega arith)

pub first_and_rest : (l : MessageList) (m : Message) → oldest_of l ≡ Some m → items l ≡ m ∷ items (rest_of l)
first_and_rest Empty m e = cc
first_and_rest (One a) m e = cc
first_and_rest (Two a b) m e = cc
first_and_rest (Three a b c) m e = cc

pub empty_without_first : (l : MessageList) → oldest_of l ≡ None → l ≡ Empty
empty_without_first Empty e = refl
empty_without_first (One a) e = cc
empty_without_first (Two a b) e = cc
empty_without_first (Three a b c) e = cc

pub rest_is_one_less : (l : MessageList) → length (items l) ≤ length (items (rest_of l)) + 1
rest_is_one_less Empty = omega arith
rest_is_one_less (One a) = omega arith
rest_is_one_less (Two a b) = omega arith
rest_is_one_less (Three a b c) = omega arith
