use Rattle.std.proofs.Common.{rules}
use Rattle.drivers.specs.Answers.{answer_of}
use Rattle.drivers.proofs.Numbers.{stands}
use Rattle.drivers.proofs.parse.first.Goals as goal

pub returns-in-Ok-Read-clause-number : goal.returns-in-Ok-Read-clause-number
unfolding answer_of
returns-in-Ok-Read-clause-number c = (stands c.args.part.now c.args.kind c.to_read.result (search rules)).number

pub returns-in-Ok-Read-clause-values : goal.returns-in-Ok-Read-clause-values
unfolding answer_of
returns-in-Ok-Read-clause-values c = (stands c.args.part.now c.args.kind c.to_read.result (search rules)).values

pub returns-in-Ok-Playing-clause-number : goal.returns-in-Ok-Playing-clause-number
unfolding answer_of
returns-in-Ok-Playing-clause-number c = (stands c.args.part.now c.args.kind c.to_playing.result (search rules)).number

pub returns-in-Ok-Playing-clause-values : goal.returns-in-Ok-Playing-clause-values
unfolding answer_of
returns-in-Ok-Playing-clause-values c = (stands c.args.part.now c.args.kind c.to_playing.result (search rules)).values

pub returns-in-Ok-Scenes-clause-number : goal.returns-in-Ok-Scenes-clause-number
unfolding answer_of
returns-in-Ok-Scenes-clause-number c = (stands c.args.part.now c.args.kind c.to_scenes.result (search rules)).number

pub returns-in-Ok-Scenes-clause-values : goal.returns-in-Ok-Scenes-clause-values
unfolding answer_of
returns-in-Ok-Scenes-clause-values c = (stands c.args.part.now c.args.kind c.to_scenes.result (search rules)).values

pub returns-in-Ok-Current-clause-number : goal.returns-in-Ok-Current-clause-number
unfolding answer_of
returns-in-Ok-Current-clause-number c = (stands c.args.part.now c.args.kind c.to_current.result (search rules)).number

pub returns-in-Ok-Current-clause-values : goal.returns-in-Ok-Current-clause-values
unfolding answer_of
returns-in-Ok-Current-clause-values c = (stands c.args.part.now c.args.kind c.to_current.result (search rules)).values

pub returns-in-Ok-Live-clause-number : goal.returns-in-Ok-Live-clause-number
unfolding answer_of
returns-in-Ok-Live-clause-number c = (stands c.args.part.now c.args.kind c.to_live.result (search rules)).number

pub returns-in-Ok-Live-clause-values : goal.returns-in-Ok-Live-clause-values
unfolding answer_of
returns-in-Ok-Live-clause-values c = (stands c.args.part.now c.args.kind c.to_live.result (search rules)).values

pub returns-in_default-clause-number : goal.returns-in_default-clause-number
unfolding answer_of
returns-in_default-clause-number c = (stands c.args.part.now c.args.kind c.to_other.result (search rules)).number

pub returns-in_default-clause-values : goal.returns-in_default-clause-values
unfolding answer_of
returns-in_default-clause-values c = (stands c.args.part.now c.args.kind c.to_other.result (search rules)).values
