-- Records that a store logs.
use Rattle.ctr_rec.specs.declared.record.Record.{Record}
use Rattle.ctr_rec.specs.declared.record.Form.{Form}
use Rattle.ctr_rec.specs.declared.record.Form.TheVariants.{Lists, Fields}
use Rattle.ctr_rec.specs.Parts.{form_of}

-- a form that isn't a Checkpoint's
abbrev pub HasFields : Form → Type 0
HasFields (Lists next lists) = ⊥
HasFields (Fields p) = Unit {0}

-- the record is no Checkpoint
abbrev pub IsChange : Record → Type 0
IsChange r = HasFields (form_of r)
