-- What the enquiries of an input hand out.
use Rattle.std.specs.Prelude.{◌≡◌, ◌<◌, ◌≤◌, length, Some, None, Option, Result}
use Rattle.model.specs.declared.enquiry.Enquiry.{Enquiry}
use Rattle.wire.specs.declared.fault.Fault.{Fault}
use Rattle.wire.specs.Places.{value_of, place_after}
use Rattle.enquiries.specs.Enquiries.{enquiry}
use Rattle.enquiries.specs.declared.enquiries.Enquiries.{Enquiries}

-- within the input the next is what is read at the place, and the place after it follows; after a fault the place is the input's end;
-- there none is handed out
pub record HandsOut (old : Enquiries) (r : Option (Result Enquiry Fault)) (new : Enquiries) : Type 0 where
  pub reads : old.at < length old.input.now → r ≡ Some (value_of (enquiry.read old.input.now old.at))
  pub goes_on : old.at < length old.input.now → new.at ≡ place_after (enquiry.read old.input.now old.at) (length old.input.now)
  pub ends : length old.input.now ≤ old.at → (r ≡ None) × (new.at ≡ old.at)
  pub same : new.input ≡ old.input
