-- `write_behind` meets its contract. Assumes nothing.

use Rattle.control_write.proofs.write_behind.Goals as goal

pub returns-in-GetState : goal.returns-in-GetState
returns-in-GetState c = rw c.in-GetState.is c.get_state.ensures

pub returns-in-IbeaconConfig : goal.returns-in-IbeaconConfig
returns-in-IbeaconConfig c = rw c.in-IbeaconConfig.is c.ibeacon_config.ensures

pub returns-in-RegisterTrackedDevice : goal.returns-in-RegisterTrackedDevice
returns-in-RegisterTrackedDevice c = rw c.in-RegisterTrackedDevice.is c.register_tracked_device.ensures

pub returns-in-TrackedDeviceHeartbeat : goal.returns-in-TrackedDeviceHeartbeat
returns-in-TrackedDeviceHeartbeat c = rw c.in-TrackedDeviceHeartbeat.is c.tracked_device_heartbeat.ensures
