-- What the tool prints.
use Rattle.std.specs.Prelude.{ℕ, List, codes}
use Rattle.tool.specs.declared.command.UsageError.{UsageError}
use Rattle.tool.specs.declared.command.UsageError.TheVariants.{UnknownCommand, TooFewArguments, TooManyArguments, BlockSize, FileLength}

abbrev pub usage_message : UsageError → List ℕ
usage_message UnknownCommand = codes "no such command; 'ags1 help' says what there is"
usage_message TooFewArguments = codes "too few arguments; 'ags1 help' says what there is"
usage_message TooManyArguments = codes "too many arguments; 'ags1 help' says what there is"
usage_message BlockSize = codes "BLOCK_SIZE must be a whole number from 0 to 18446744073709551615"
usage_message FileLength = codes "FILE_LENGTH must be a whole number from 0 to 18446744073709551615"
