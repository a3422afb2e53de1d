-- What the steps of a search keep.
use Rattle.std.specs.Prelude.{◌≡◌, length}
use Rattle.queue.specs.Contents.{capacity}
use Rattle.engine.specs.declared.frontier.Frontier.{Frontier}
use Rattle.engine.specs.Agenda.{Agenda}

-- the rows and the queue of a frontier are as an agenda has them
abbrev pub Standing : Frontier → Type 0
Standing f = Agenda f.labels.now f.queue.now

-- a step keeps the rows that are lent, and the room of the queue
pub record Kept (f f' : Frontier) : Type 0 where
  pub rows : f'.labels.ghost_name ≡ f.labels.ghost_name
  pub size : length f'.labels.now ≡ length f.labels.now
  pub room : capacity f'.queue.now ≡ capacity f.queue.now
