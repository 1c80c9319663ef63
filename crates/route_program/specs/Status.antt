-- The exit statuses of programs.
use Rattle.std.specs.Prelude.{ℕ}
use Rattle.route_program.specs.declared.error.RunError.{RunError}
use Rattle.route_program.specs.declared.error.RunError.TheVariants as Why

-- the status of a program whose run ended with this error
abbrev pub status_of : RunError → ℕ
status_of Why.Memory = 1
status_of Why.Read = 3
status_of Why.Write = 4
status_of Why.Line = 5
