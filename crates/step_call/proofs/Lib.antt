mod StepCalled
