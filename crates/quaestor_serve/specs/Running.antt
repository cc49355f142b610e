-- Internal. Connections that are served.
use Rattle.quaestor_serve.specs.declared.begun.Begun.{Begun}
use Rattle.quaestor_serve.specs.declared.running.Running.{Running}

module _ {S K C H L : Type 0} where
  -- what the connection began with
  abbrev pub begun_of : Running S K C H L → Begun S K C H
  begun_of running = running.handle.promise.begun.value
