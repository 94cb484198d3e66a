-- The steps of a script, as the code has them.
use Rattle.machine.specs.Scripts.{Step, end, constant, add, read_cookie, write_cookie, send_request, skip_if_zero, send_picture}
use Rattle.scripts.specs.declared.operation.Operation.{Operation}
use Rattle.scripts.specs.declared.operation.Operation.TheVariants.{End, Constant, Add, ReadCookie, WriteCookie, SendRequest, SkipIfZero, SendPicture}

abbrev pub told : Operation → Step
told End = end
told (Constant register value) = constant register value
told (Add register left right) = add register left right
told (ReadCookie register key) = read_cookie register key
told (WriteCookie key register) = write_cookie key register
told (SendRequest url connection handler) = send_request url connection handler
told (SkipIfZero register count) = skip_if_zero register count
told (SendPicture url connection) = send_picture url connection
