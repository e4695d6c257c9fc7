use Rattle.steer_top.proofs.telling.tell_plan_fault.Goals as goal

pub returns-in-NotJson : goal.returns-in-NotJson
returns-in-NotJson g c = rw c.in-NotJson.is c.say.ensures

pub returns-in-WrongKind : goal.returns-in-WrongKind
returns-in-WrongKind g c =
    rw c.in-WrongKind.is (rw c.as_slice-in-WrongKind.ensures at c.say-in-WrongKind.ensures)

pub returns-in-UnknownKey : goal.returns-in-UnknownKey
returns-in-UnknownKey g c =
    rw c.in-UnknownKey.is (rw c.as_slice-in-UnknownKey.ensures at c.say-in-UnknownKey.ensures)

pub returns-in-TooLong : goal.returns-in-TooLong
returns-in-TooLong g c =
    rw c.in-TooLong.is
    (rw (c.as_bytes-digits-in-TooLong.ensures.value, c.format-in-TooLong.ensures.text)
    at c.say-in-TooLong.ensures)

pub returns-in-OutOfMemory : goal.returns-in-OutOfMemory
returns-in-OutOfMemory g c = rw c.in-OutOfMemory.is c.say-in-OutOfMemory.ensures
