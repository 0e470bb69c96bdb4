-- The number of each refusal. Every promise that speaks of a refusal speaks of its number, by this definition.
use Rattle.std.specs.Prelude.{ℕ}
use Rattle.refusals.specs.declared.Refusal.{Refusal}
use Rattle.refusals.specs.declared.Refusal.TheVariants.{NoSuchDrinker, BottleNotShared, WrongState, RoundsSpent, StaleTicket, DinerDoesNotFit, TooFewChannels, NotAtRest, UnusablePattern, BadEnds, OutsideLimits, NothingSuchToCarry, ChannelFull}

abbrev pub number_of : Refusal → ℕ
number_of NoSuchDrinker = 1
number_of BottleNotShared = 2
number_of WrongState = 3
number_of RoundsSpent = 4
number_of StaleTicket = 5
number_of DinerDoesNotFit = 6
number_of TooFewChannels = 7
number_of NotAtRest = 8
number_of UnusablePattern = 9
number_of BadEnds = 10
number_of OutsideLimits = 11
number_of NothingSuchToCarry = 18
number_of ChannelFull = 19
