-- A message is that of the case in its arm; the search gives up at such long texts.
use Rattle.std.proofs.Common.{sym, ap}
use Rattle.tool.specs.Texts.{usage_message}
use Rattle.tool.proofs.command.UsageError.message.Goals as goal

pub returns-in-UnknownCommand : goal.returns-in-UnknownCommand
returns-in-UnknownCommand c = ap usage_message (sym c.in-UnknownCommand.is)

pub returns-in-TooFewArguments : goal.returns-in-TooFewArguments
returns-in-TooFewArguments c = ap usage_message (sym c.in-TooFewArguments.is)

pub returns-in-TooManyArguments : goal.returns-in-TooManyArguments
returns-in-TooManyArguments c = ap usage_message (sym c.in-TooManyArguments.is)

pub returns-in-BlockSize : goal.returns-in-BlockSize
returns-in-BlockSize c = ap usage_message (sym c.in-BlockSize.is)

pub returns-in-FileLength : goal.returns-in-FileLength
returns-in-FileLength c = ap usage_message (sym c.in-FileLength.is)
