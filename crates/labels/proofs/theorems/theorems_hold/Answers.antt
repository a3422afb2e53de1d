use Rattle.std.proofs.Common.{refl}
use Rattle.model.proofs.Worlds.{world_is_lawful}
use Rattle.model.proofs.Halves.{trip_is_two, suits_is_trip}
use Rattle.model.proofs.Unique.{first_is_one, rank_is_one, journey_is_one, answer_is_one}
use Rattle.model.proofs.Waiting.{waiting_never_helps, eager_is_trip}
use Rattle.model.proofs.Extending.{journey_is_trip}
use Rattle.labels.proofs.Journeys.{one_walk_beats_two, two_walks_to_a_boat}
use Rattle.labels.proofs.theorems.theorems_hold.Goals as goal

pub returns : goal.returns
returns c = record {
  answer = refl;
  trips = record {
    world_is_lawful = world_is_lawful;
    trip_is_two = trip_is_two;
    suits_is_trip = suits_is_trip;
    first_is_one = first_is_one;
    rank_is_one = rank_is_one;
    journey_is_one = journey_is_one;
    answer_is_one = answer_is_one;
    waiting_never_helps = waiting_never_helps;
    eager_is_trip = eager_is_trip;
    journey_is_trip = journey_is_trip;
  };
  one_walk_beats_two = one_walk_beats_two;
  two_walks_to_a_boat = two_walks_to_a_boat;
}
