-- What each case of the errors of key services and the key manager reports: code, layer and position.
use Rattle.std.specs.Prelude.{ℕ}
use Rattle.code.specs.declared.code.Code.TheVariants as code
use Rattle.code.specs.declared.code.Layer.TheVariants as layer
use Rattle.code.specs.declared.report.Report.{Report}
use Rattle.error.specs.Reports.{told, cipher_report}
use Rattle.key_error.specs.declared.kms.KmsError.{KmsError}
use Rattle.key_error.specs.declared.kms.KmsError.TheVariants as kms
use Rattle.key_error.specs.declared.manager.KeyRole.{KeyRole}
use Rattle.key_error.specs.declared.manager.KeyRole.TheVariants as role
use Rattle.key_error.specs.declared.manager.ManagerError.{ManagerError}
use Rattle.key_error.specs.declared.manager.ManagerError.TheVariants as manager

abbrev pub kms_report : KmsError → Report
kms_report kms.MemoryTooSmall = told layer.KeyService code.MemoryTooSmall 0
kms_report kms.Unavailable = told layer.KeyService code.Unavailable 0
kms_report kms.UnknownMasterKey = told layer.KeyService code.UnknownMasterKey 0
kms_report kms.CannotGenerate = told layer.KeyService code.CannotGenerate 0
kms_report kms.NoFreeSlot = told layer.KeyService code.NoFreeSlot 0
kms_report kms.Duplicate = told layer.KeyService code.Duplicate 0
kms_report kms.OutsideLimits = told layer.KeyService code.OutsideLimits 0
kms_report (kms.Cipher e) = told layer.KeyService (cipher_report e).code 0
kms_report kms.OutOfMemory = told layer.KeyService code.OutOfMemory 0

abbrev pub role_position : KeyRole → ℕ
role_position role.Record = 0
role_position role.Kek = 1

-- 0 for the record, 1 for its KEK and the key service
abbrev pub manager_report : ManagerError → Report
manager_report manager.MemoryTooSmall = told layer.Manager code.MemoryTooSmall 0
manager_report (manager.NoSuchKey k) = told layer.Manager code.NoSuchKey (role_position k)
manager_report (manager.NoWrappingKeyId k) = told layer.Manager code.NoWrappingKeyId (role_position k)
manager_report manager.NoTimestamp = told layer.Manager code.NoTimestamp 1
manager_report manager.NoFreeSlot = told layer.Manager code.NoFreeSlot 0
manager_report (manager.Duplicate k) = told layer.Manager code.Duplicate (role_position k)
manager_report manager.OutsideLimits = told layer.Manager code.OutsideLimits 0
manager_report (manager.Cipher e) = told layer.Manager (cipher_report e).code 0
manager_report (manager.Kms e) = told layer.Manager (kms_report e).code 1
manager_report manager.OutOfMemory = told layer.Manager code.OutOfMemory 0
