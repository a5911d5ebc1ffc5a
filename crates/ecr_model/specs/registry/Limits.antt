-- The most that the program keeps of each kind (of this registry; Amazon ECR User Guide, service quotas, has others).
use Rattle.ecr_model.specs.declared.registry.journal.Limits.{Limits}

-- the limits of the program
unfoldable pub standard : Limits
standard = record { names = 100000; images = 100000; tags = 1000; parts = 4200; bytes = 1073741824 }
