pub mod MaxFaulty
