-- A list of at most three messages, as the code holds it: the oldest first.
use Rattle.std.specs.Prelude.{List, [], ◌∷◌, ◌++◌, drop, Option, slice_get}
use Rattle.posts.specs.declared.message_list.MessageList.{MessageList}
use Rattle.posts.specs.declared.message_list.MessageList.TheVariants.{Empty, One, Two, Three}
use Rattle.wires.specs.declared.message.Message.{Message}

abbrev pub items : MessageList → List Message
items Empty = []
items (One a) = a ∷ []
items (Two a b) = a ∷ b ∷ []
items (Three a b c) = a ∷ b ∷ c ∷ []

-- the first three of these messages, or fewer where there are not three
abbrev pub list_of : List Message → MessageList
list_of [] = Empty
list_of (a ∷ []) = One a
list_of (a ∷ b ∷ []) = Two a b
list_of (a ∷ b ∷ c ∷ ms) = Three a b c

abbrev pub oldest_of : MessageList → Option Message
oldest_of l = slice_get (items l) 0

abbrev pub rest_of : MessageList → MessageList
rest_of l = list_of (drop 1 (items l))

-- one message more, behind the others; three are left as they are
abbrev pub with_last : MessageList → Message → MessageList
with_last l m = list_of (items l ++ m ∷ [])
