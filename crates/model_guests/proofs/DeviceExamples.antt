-- The worked example, by computation.
use Rattle.model_guests.specs.DeviceExamples.{CountingDevice}

pub device_can_count_in_read_only_register : CountingDevice
device_can_count_in_read_only_register = assumption
