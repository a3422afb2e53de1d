-- A road book: each service has points, with the travel time at each, and arrivals between them in proportion.
use Rattle.std.specs.Prelude.{ℕ, ◌+◌, ◌-◌, ◌*◌, ◌/◌, ◌<◌, ◌≤◌, List, [], ◌∷◌, length, get_or, Some, None, filter, Option, nat_le, nat_lt, slice_index_or}
use Rattle.model.specs.Clock.{horizon}
use Rattle.model.specs.declared.tables.Point.{Point}
use Rattle.model.specs.declared.tables.Span.{Span}
use Rattle.meanings.specs.Answers.{listed, timely}
use Rattle.meanings.specs.Spans.{service_rows, most_services, AllFit, Each}

-- a point's arrival: of one who sets out at its second
abbrev pub reached : Point → ℕ
reached x = x.second + x.travel

-- from P at p in proportion to Q at q, rounded down
abbrev pub line : ℕ → ℕ → ℕ → ℕ → ℕ → ℕ
line p P q Q t = P + (Q - P) * (t - p) / (q - p)

-- the arrival between two neighbouring points
abbrev pub between : Point → Point → ℕ → ℕ
between x y t = line x.second (reached x) y.second (reached y) t

-- the points at or before a second, and those after it
abbrev pub passed : ℕ → List Point → List Point
passed t ps = filter (λ x. nat_le x.second t) ps

abbrev pub ahead : ℕ → List Point → List Point
ahead t ps = filter (λ x. nat_lt t x.second) ps

abbrev pub first_of : List Point → Option Point
first_of [] = None
first_of (x ∷ xs) = Some x

abbrev pub last_from : Point → List Point → Point
last_from x [] = x
last_from x (y ∷ ys) = last_from y ys

abbrev pub last_of : List Point → Option Point
last_of [] = None
last_of (x ∷ xs) = Some (last_from x xs)

-- by the point before and the point after: where there is one of them only, its travel time is added
abbrev pub by_neighbours : Option Point → Option Point → ℕ → ℕ
by_neighbours (Some x) (Some y) t = between x y t
by_neighbours (Some x) None t = t + x.travel
by_neighbours None (Some y) t = t + y.travel
by_neighbours None None t = t

-- the arrival by the points of a road: by the last point at or before the coming, and the first one after it
abbrev pub ridden : List Point → ℕ → ℕ
ridden ps t = by_neighbours (last_of (passed t ps)) (first_of (ahead t ps)) t

-- what a road book answers
abbrev pub driven : List Point → List Span → ℕ → ℕ → Option ℕ
driven ps spans s t = listed (length spans) s (timely (ridden (service_rows ps spans s) t))

abbrev pub no_point : Point
no_point = record { second = 0; travel = 0 }

-- the seconds of a list rise strictly
abbrev pub Rising : List Point → Type 0
Rising ps = (j : ℕ) → j + 1 < length ps → (get_or ps j no_point).second < (get_or ps (j + 1) no_point).second

-- the arrivals of a list never fall
abbrev pub Steady : List Point → Type 0
Steady ps = (j : ℕ) → j + 1 < length ps → reached (slice_index_or ps j no_point) ≤ reached (slice_index_or ps (j + 1) no_point)

-- every point of a list is reached by the horizon
abbrev pub Timely : List Point → Type 0
Timely ps = (j : ℕ) → j < length ps → reached (slice_index_or ps j no_point) ≤ horizon

-- the most points of one service
abbrev pub most_points : ℕ
most_points = 96

-- the tables that a road book stands on
pub record SoundRoads (ps : List Point) (spans : List Span) : Type 0 where
  pub few : length spans ≤ most_services
  pub fit : AllFit most_points ps spans
  pub rising : Each Rising ps spans
  pub steady : Each Steady ps spans
  pub timely : Each Timely ps spans
