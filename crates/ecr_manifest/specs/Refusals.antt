-- What a refusal says.
use Rattle.std.specs.Prelude.{◌≡◌, Result, Err}
use Rattle.ecr_model.specs.declared.registry.manifest.Facts.{Facts}
use Rattle.ecr_model.specs.declared.registry.manifest.ManifestFault.{ManifestFault}
use Rattle.ecr_manifest.specs.declared.bytes.ManifestRefusal.{ManifestRefusal}
use Rattle.ecr_manifest.specs.declared.bytes.ManifestRefusal.TheVariants.{Bad, Mem}

-- the reading ends with that cause and entry; want of memory says nothing of it
abbrev pub Tells : ManifestRefusal → Result Facts ManifestFault → Type 0
Tells (Bad cause entry) reading = reading ≡ Err (record { cause = cause; entry = entry })
Tells Mem reading = Unit {0}
