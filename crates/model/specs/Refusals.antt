-- Refusals by number, by whose doing they are, and by the part of a file that they belong to.
use Rattle.std.specs.Prelude.{ℕ}
use Rattle.model.specs.declared.refusal.Refusal.{Refusal}
use Rattle.model.specs.declared.refusal.Refusal.TheVariants.{NoSuchStart, NoSuchTarget, SecondAboveHorizon, NoJourney, TooManyStates, RuleField, StepsNotAscending, StopCount, ArcCount, ArcField, TailFalls, NoSuchService, FileEndsEarly, BadNumber, ServiceField, NameLength, OtherForm, BulletinOpen, NoSuchBulletin, NoticeField, NoticesFull, NothingToLift, LabelTableShort, QueueShort, RowsShort, FileTablesShort, OutputShort}
use Rattle.model.specs.declared.refusal.Cause.{Cause}
use Rattle.model.specs.declared.refusal.Cause.TheVariants.{Passenger, RuleWriter, TimetableEditor, ControlRoom, Host}
use Rattle.model.specs.declared.refusal.Layer.{Layer}
use Rattle.model.specs.declared.refusal.Layer.TheVariants.{Number, Record, Network}

-- the number that a refusal is reported by
abbrev pub number_of : Refusal → ℕ
number_of NoSuchStart = 1
number_of NoSuchTarget = 2
number_of SecondAboveHorizon = 3
number_of NoJourney = 4
number_of TooManyStates = 11
number_of RuleField = 12
number_of StepsNotAscending = 13
number_of StopCount = 21
number_of ArcCount = 22
number_of ArcField = 23
number_of TailFalls = 24
number_of NoSuchService = 25
number_of FileEndsEarly = 26
number_of BadNumber = 27
number_of ServiceField = 28
number_of NameLength = 29
number_of OtherForm = 30
number_of BulletinOpen = 41
number_of NoSuchBulletin = 42
number_of NoticeField = 43
number_of NoticesFull = 44
number_of NothingToLift = 45
number_of LabelTableShort = 51
number_of QueueShort = 52
number_of RowsShort = 53
number_of FileTablesShort = 54
number_of OutputShort = 55

-- whose doing it is
abbrev pub cause_of : Refusal → Cause
cause_of NoSuchStart = Passenger
cause_of NoSuchTarget = Passenger
cause_of SecondAboveHorizon = Passenger
cause_of NoJourney = Passenger
cause_of TooManyStates = RuleWriter
cause_of RuleField = RuleWriter
cause_of StepsNotAscending = RuleWriter
cause_of StopCount = TimetableEditor
cause_of ArcCount = TimetableEditor
cause_of ArcField = TimetableEditor
cause_of TailFalls = TimetableEditor
cause_of NoSuchService = TimetableEditor
cause_of FileEndsEarly = TimetableEditor
cause_of BadNumber = TimetableEditor
cause_of ServiceField = TimetableEditor
cause_of NameLength = TimetableEditor
cause_of OtherForm = TimetableEditor
cause_of BulletinOpen = ControlRoom
cause_of NoSuchBulletin = ControlRoom
cause_of NoticeField = ControlRoom
cause_of NoticesFull = ControlRoom
cause_of NothingToLift = ControlRoom
cause_of LabelTableShort = Host
cause_of QueueShort = Host
cause_of RowsShort = Host
cause_of FileTablesShort = Host
cause_of OutputShort = Host

-- the layer that a file fault names: a number's own form, a record's fields, or what the network as a whole asks
abbrev pub layer_of : Refusal → Layer
layer_of NoSuchStart = Network
layer_of NoSuchTarget = Network
layer_of SecondAboveHorizon = Network
layer_of NoJourney = Network
layer_of TooManyStates = Network
layer_of RuleField = Record
layer_of StepsNotAscending = Record
layer_of StopCount = Network
layer_of ArcCount = Network
layer_of ArcField = Network
layer_of TailFalls = Network
layer_of NoSuchService = Network
layer_of FileEndsEarly = Number
layer_of BadNumber = Number
layer_of ServiceField = Record
layer_of NameLength = Record
layer_of OtherForm = Network
layer_of BulletinOpen = Network
layer_of NoSuchBulletin = Network
layer_of NoticeField = Network
layer_of NoticesFull = Network
layer_of NothingToLift = Network
layer_of LabelTableShort = Network
layer_of QueueShort = Network
layer_of RowsShort = Network
layer_of FileTablesShort = Network
layer_of OutputShort = Network
