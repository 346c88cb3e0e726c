-- A look at a served array, as the pages show it.
use Rattle.std.specs.Prelude.{◌≡◌, ℕ, Bool, true, false, List, [], Option, Some, None}
use Rattle.ar_volume.specs.Image.{ArrayState}
use Rattle.ar_served.specs.Kept.{KeptState}
use Rattle.ar_served.specs.declared.store_status.StoreStatus.{StoreStatus}
use Rattle.ar_picture.specs.Drawings.{svg_text}
use Rattle.ar_picture.specs.Losses.{health_naming}
use Rattle.ar_picture.specs.declared.picture.Picture.{Picture}
use Rattle.ar_answers.specs.Pictures.{IsPicture}
use Rattle.ar_shown.specs.Shown.{IsStatusOf}
use Rattle.ar_shown.specs.declared.shown.Beside.{Beside}
use Rattle.ar_status.specs.declared.status.ArrayStatus.{ArrayStatus}

-- the array's picture, which names the disks that it has lost, if it has failed and they are known
pub record IsDrawing (lost : Option (List ℕ)) (array : ArrayState) (drawing : Picture) : Type 0 where
  pub picture : Picture
  pub shows : IsPicture array picture
  pub is : drawing ≡ record picture { health = health_naming lost picture.health }

-- the data of the picture, if it is to be drawn
abbrev pub MayDraw : Bool → Option (List ℕ) → ArrayState → Option Picture → Type 0
MayDraw false lost array None = Unit {0}
MayDraw false lost array (Some drawing) = ⊥
MayDraw true lost array None = ⊥
MayDraw true lost array (Some drawing) = IsDrawing lost array drawing

-- The status of an array at one moment, and the data of its picture at the same one, both with the same lost disks. One
-- that doesn't persist has no store. What is shown beside the array, the events, how many entries are stored, and how
-- the store is, are not specified.
pub record CopiesMoment (persists draws : Bool) (status : ArrayStatus) (drawing : Option Picture) : Type 0 where
  pub state : KeptState
  pub stored : ℕ
  pub store : Option StoreStatus
  pub absent : persists ≡ false → store ≡ None
  pub beside : Beside
  pub is : IsStatusOf state.array state.counts stored store status.events beside status
  pub picture : MayDraw draws beside.lost state.array drawing

-- the text of a picture; without one it is empty
abbrev pub text_drawn : Option Picture → List ℕ
text_drawn None = []
text_drawn (Some picture) = svg_text picture

-- A look shows an array at one moment, and the picture of the same moment. That it is the array behind the lock is not
-- specified.
pub record ShowsMoment (persists draws : Bool) (status : ArrayStatus) (text : List ℕ) : Type 0 where
  pub picture : Option Picture
  pub copied : CopiesMoment persists draws status picture
  pub drawn : text ≡ text_drawn picture
