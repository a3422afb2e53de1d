-- The board of a stop: the connections of a timetable book that depart from it at or after a second.
use Rattle.std.specs.Prelude.{◌≡◌, ℕ, ◌-◌, ◌<◌, ◌≤◌, ◌↔◌, List, length, slice_index_or}
use Rattle.std.specs.List.{ContainsAt as Has}
use Rattle.model.specs.declared.network.Arc.{Arc}
use Rattle.model.specs.declared.tables.Connection.{Connection}
use Rattle.model.specs.declared.tables.Span.{Span}
use Rattle.meanings.specs.Spans.{service_rows}
use Rattle.meanings.specs.Timetables.{no_connection}
use Rattle.poster.specs.declared.departure.Departure.{Departure}
use Rattle.poster.specs.declared.departure.PosterRow.{PosterRow}
use Rattle.poster.specs.Before.{Ascending}

-- what a board is made of: the arcs of a network, the tables of a timetable book, the number of the book's first service, the stop and
-- the second
pub record Listing : Type 0 where
  pub arcs : List Arc
  pub connections : List Connection
  pub spans : List Span
  pub first_service : ℕ
  pub stop : ℕ
  pub second : ℕ

abbrev pub listing : List Arc → List Connection → List Span → ℕ → ℕ → ℕ → Listing
listing arcs connections spans first_service stop second =
    record { arcs = arcs; connections = connections; spans = spans; first_service = first_service; stop = stop; second = second }

abbrev pub no_arc : Arc
no_arc = record { tail = 0; head = 0; label = 0; service = 0 }

module _ (l : Listing) where
  -- the arc of that number
  abbrev pub arc_of : ℕ → Arc
  arc_of a = slice_index_or l.arcs a no_arc

  -- the arc's service, as the book numbers it
  abbrev pub service_of : ℕ → ℕ
  service_of a = (arc_of a).service - l.first_service

  -- the connections of the arc's service
  abbrev pub service_list : ℕ → List Connection
  service_list a = service_rows l.connections l.spans (service_of a)

  -- the connection of a departure: the one at its place in the service of its arc
  abbrev pub connection_of : Departure → Connection
  connection_of d = slice_index_or (service_list d.arc) d.place no_connection

  -- a departure is due: its arc leaves the stop, the arc's service is one of the book's, whose services are numbered from the first
  -- service number on, the service has a connection at its place, and that departs at its second, which is at or after the asked one
  pub record Due (d : Departure) : Type 0 where
    pub numbered : d.arc < length l.arcs
    pub leaves : (arc_of d.arc).tail ≡ l.stop
    pub not_below : l.first_service ≤ (arc_of d.arc).service
    pub in_the_book : service_of d.arc < length l.spans
    pub in_the_service : d.place < length (service_list d.arc)
    pub departs : d.departure ≡ (connection_of d).departure
    pub in_time : l.second ≤ d.departure

  -- the board: all departures that are due and no others, in the order of departure, arc and place
  pub record Board (board : List Departure) : Type 0 where
    pub ascending : Ascending board
    pub just_the_due : (d : Departure) → Has board d ↔ Due d

  -- the row of a departure
  abbrev pub row_of : Departure → PosterRow
  row_of d = record { departure = d.departure; arrival = (connection_of d).arrival; arc = d.arc }

-- there is one board
abbrev pub BoardsAreOne : Type 0
BoardsAreOne = (l : Listing) (b c : List Departure) → Board l b → Board l c → b ≡ c
