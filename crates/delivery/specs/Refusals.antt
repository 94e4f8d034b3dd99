-- Why an event is refused, and document 01's numbers. Definitions only.
use Rattle.std.specs.Prelude.{ℕ}
use Rattle.profile.specs.Refusal as profile
use Rattle.hands.specs.Declined as hands
use Rattle.delivery.specs.declared.refusal.Refusal.{Refusal}
use Rattle.delivery.specs.declared.refusal.Refusal.TheVariants.{Profile, Session, Buffers, Event, Silenced, Turn, Answer}

abbrev pub number_of : Refusal → ℕ
number_of (Profile why) = profile.number_of why
number_of Session = 8
number_of Buffers = 9
number_of Event = 10
number_of Silenced = 11
number_of (Turn why) = hands.number_of why
number_of Answer = 14
